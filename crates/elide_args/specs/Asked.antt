-- What a subcommand asks for, by the values that were found of its options. The names are those of the command line
-- (docs/FORMATS.md, "Options of the command line").
use Rattle.std.specs.Prelude.{◌≡◌, ℕ, Bool, false, true, List, [], map, Option, Some, None, codes}
use Rattle.std.specs.Option.{option_copied}
use Rattle.std.specs.Borrow.{Bor}
use Rattle.clap.specs.Matches.{first_value, matched_of, one_text, raw_values}
use Rattle.clap.specs.declared.parser.matches.Found.{Found}
use Rattle.clap.specs.declared.parser.matches.MatchedArg.{MatchedArg}
use Rattle.elide_args.specs.declared.hunt_options.HuntOptions.{HuntOptions}
use Rattle.elide_args.specs.declared.subcommand.DrawOptions.{DrawOptions}
use Rattle.elide_args.specs.declared.subcommand.MachineOptions.{MachineOptions}
use Rattle.elide_args.specs.declared.subcommand.OutcomesOptions.{OutcomesOptions}
use Rattle.elide_args.specs.declared.subcommand.PageOptions.{PageOptions}
use Rattle.elide_args.specs.declared.subcommand.ReplayOptions.{ReplayOptions}
use Rattle.elide_args.specs.declared.subcommand.RunOptions.{RunOptions}
use Rattle.elide_args.specs.declared.subcommand.ScheduleOptions.{ScheduleOptions}
use Rattle.elide_args.specs.declared.subcommand.SessionOptions.{SessionOptions}
use Rattle.elide_args.specs.declared.subcommand.StatsOptions.{StatsOptions}
use Rattle.elide_args.specs.declared.subcommand.Subcommand.{Subcommand}
use Rattle.elide_args.specs.declared.subcommand.TestOptions.{TestOptions}
use Rattle.elide_args.specs.declared.subcommand.ThreadsOptions.{ThreadsOptions}
use Rattle.elide_args.specs.declared.subcommand.Subcommand.TheVariants.{Asm, Dis, Run, Threads, Replay, Debug, Gdb}
use Rattle.elide_args.specs.declared.subcommand.Subcommand.TheVariants.{Hunt}
use Rattle.elide_args.specs.declared.subcommand.Subcommand.TheVariants.{Outcomes, Test, Stats, Draw, Page, Explain}

-- the flag of this name: false, unless clap read `true` of it
pub record IsFlag (found : Found) (name : List ℕ) (flag : Bool) : Type 0 where
  pub none : one_text found name ≡ None → flag ≡ false
  pub given : one_text found name ≡ Some (codes "true") → flag ≡ true
  pub other : one_text found name ≡ Some (codes "false") → flag ≡ false

-- the values of an option that is given several times
abbrev pub matched_values : Option MatchedArg → List (List ℕ)
matched_values None = []
matched_values (Some matched) = raw_values matched

abbrev pub values_of : Found → List ℕ → List (List ℕ)
values_of found name = matched_values (matched_of found name)

abbrev pub texts_of : List (Bor (List ℕ)) → List (List ℕ)
texts_of texts = map (λ s. s.now) texts

pub record IsMachine (found : Found) (options : MachineOptions) : Type 0 where
  pub file : first_value found (codes "FILE") ≡ Some options.file.now
  pub cores : first_value found (codes "cores") ≡ option_copied options.cores
  pub memory : first_value found (codes "mem") ≡ option_copied options.memory
  pub entry : first_value found (codes "entry") ≡ option_copied options.entry
  pub reads : first_value found (codes "reads") ≡ option_copied options.reads
  pub writes : first_value found (codes "writes") ≡ option_copied options.writes
  pub stores : first_value found (codes "store-buffer") ≡ option_copied options.store_buffer

-- what is printed of memory: the values of both options, in the order of the command line
pub record IsShown (found : Found) (options : MachineOptions) : Type 0 where
  pub dumps : texts_of options.dumps.items ≡ values_of found (codes "dump")
  pub shows : texts_of options.shows.items ≡ values_of found (codes "show")

-- a command that prints no state prints nothing of memory
pub record ShowsNothing (options : MachineOptions) : Type 0 where
  pub dumps : options.dumps.items ≡ []
  pub shows : options.shows.items ≡ []

pub record IsSchedule (found : Found) (options : ScheduleOptions) : Type 0 where
  pub steps : first_value found (codes "steps") ≡ option_copied options.steps
  pub path : first_value found (codes "schedule") ≡ option_copied options.path
  pub in_turn : IsFlag found (codes "in-turn") options.in_turn
  pub random : first_value found (codes "random") ≡ option_copied options.random
  pub events : first_value found (codes "events") ≡ option_copied options.events
  pub seed : first_value found (codes "seed") ≡ option_copied options.seed
  pub limit : first_value found (codes "limit") ≡ option_copied options.limit

pub record IsRun (found : Found) (options : RunOptions) : Type 0 where
  pub machine : IsMachine found options.machine
  pub shown : IsShown found options.machine
  pub schedule : IsSchedule found options.schedule
  pub traces : IsFlag found (codes "trace") options.traces
  pub code : IsFlag found (codes "code") options.shows_code
  pub explains : IsFlag found (codes "why") options.explains
  pub halt : IsFlag found (codes "expect-halt") options.expects_halt
  pub path : first_value found (codes "record") ≡ option_copied options.«record»
  pub json : IsFlag found (codes "json") options.is_json

pub record IsSecondRun (found : Found) (options : ReplayOptions) : Type 0 where
  pub machine : IsMachine found options.machine
  pub shown : IsShown found options.machine
  pub schedule : IsSchedule found options.schedule
  pub explains : IsFlag found (codes "why") options.explains
  pub path : first_value found (codes "record") ≡ option_copied options.«record»
  pub json : IsFlag found (codes "json") options.is_json

pub record IsWork (found : Found) (options : ThreadsOptions) : Type 0 where
  pub machine : IsMachine found options.machine
  pub shown : IsShown found options.machine
  pub budget : first_value found (codes "budget") ≡ option_copied options.budget
  pub burst : first_value found (codes "burst") ≡ option_copied options.burst
  pub events : first_value found (codes "events") ≡ option_copied options.events
  pub seed : first_value found (codes "seed") ≡ option_copied options.seed
  pub explains : IsFlag found (codes "why") options.explains
  pub counts : IsFlag found (codes "stats") options.counts
  pub json : IsFlag found (codes "json") options.is_json
  pub path : first_value found (codes "record") ≡ option_copied options.«record»

pub record IsSearch (found : Found) (options : OutcomesOptions) : Type 0 where
  pub machine : IsMachine found options.machine
  pub nothing : ShowsNothing options.machine
  pub show : first_value found (codes "show") ≡ option_copied options.show
  pub names : IsFlag found (codes "names") options.shows_names
  pub events : first_value found (codes "events") ≡ option_copied options.events
  pub limit : first_value found (codes "limit") ≡ option_copied options.limit
  pub checks : texts_of options.checks.items ≡ values_of found (codes "check")
  pub forbids : texts_of options.forbids.items ≡ values_of found (codes "forbid")
  pub stops : texts_of options.stops.items ≡ values_of found (codes "stop")
  pub stuck : IsFlag found (codes "stuck") options.asks_stuck
  pub page : texts_of options.page.items ≡ values_of found (codes "page")
  pub json : IsFlag found (codes "json") options.is_json

pub record IsHunt (found : Found) (options : HuntOptions) : Type 0 where
  pub machine : IsMachine found options.machine
  pub nothing : ShowsNothing options.machine
  pub checks : texts_of options.checks.items ≡ values_of found (codes "check")
  pub forbids : texts_of options.forbids.items ≡ values_of found (codes "forbid")
  pub stops : texts_of options.stops.items ≡ values_of found (codes "stop")
  pub halt : IsFlag found (codes "expect-halt") options.expects_halt
  pub runs : first_value found (codes "runs") ≡ option_copied options.runs
  pub seed : first_value found (codes "seed") ≡ option_copied options.seed
  pub method : first_value found (codes "method") ≡ option_copied options.method
  pub events : first_value found (codes "events") ≡ option_copied options.events
  pub limit : first_value found (codes "limit") ≡ option_copied options.limit
  pub jobs : first_value found (codes "jobs") ≡ option_copied options.jobs
  pub path : first_value found (codes "record") ≡ option_copied options.«record»
  pub page : first_value found (codes "page") ≡ option_copied options.page
  pub json : IsFlag found (codes "json") options.is_json

pub record IsTrying (found : Found) (options : TestOptions) : Type 0 where
  pub files : texts_of options.files.items ≡ values_of found (codes "FILE")
  pub list : first_value found (codes "list") ≡ option_copied options.list
  pub jobs : first_value found (codes "jobs") ≡ option_copied options.jobs
  pub json : IsFlag found (codes "json") options.is_json

pub record IsCounting (found : Found) (options : StatsOptions) : Type 0 where
  pub machine : IsMachine found options.machine
  pub nothing : ShowsNothing options.machine
  pub schedule : IsSchedule found options.schedule
  pub path : first_value found (codes "record") ≡ option_copied options.«record»
  pub json : IsFlag found (codes "json") options.is_json

pub record IsSession (found : Found) (options : SessionOptions) : Type 0 where
  pub machine : IsMachine found options.machine
  pub shown : IsShown found options.machine
  pub schedule : IsSchedule found options.schedule

pub record IsPicture (found : Found) (options : DrawOptions) : Type 0 where
  pub machine : IsMachine found options.machine
  pub shown : IsShown found options.machine
  pub schedule : IsSchedule found options.schedule
  pub path : first_value found (codes "record") ≡ option_copied options.«record»
  pub from : first_value found (codes "from") ≡ option_copied options.from
  pub to : first_value found (codes "to") ≡ option_copied options.to
  pub cores : first_value found (codes "core") ≡ option_copied options.cores

pub record IsPage (found : Found) (options : PageOptions) : Type 0 where
  pub machine : IsMachine found options.machine
  pub shown : IsShown found options.machine
  pub schedule : IsSchedule found options.schedule
  pub from : first_value found (codes "from") ≡ option_copied options.from
  pub to : first_value found (codes "to") ≡ option_copied options.to
  pub notes : texts_of options.notes.items ≡ values_of found (codes "note")
  pub title : first_value found (codes "title") ≡ option_copied options.title
  pub output : first_value found (codes "output") ≡ option_copied options.output

-- the subcommand of this name, with these values
abbrev pub Asks : Found → List ℕ → Subcommand → Type 0
Asks found name (Asm options) =
    (name ≡ codes "asm") × (first_value found (codes "FILE") ≡ Some options.file.now)
    × IsFlag found (codes "list") options.lists
Asks found name (Dis options) =
    (name ≡ codes "dis") × (first_value found (codes "FILE") ≡ Some options.file.now)
    × IsFlag found (codes "labels") options.shows_labels
Asks found name (Run options) = (name ≡ codes "run") × IsRun found options
Asks found name (Threads options) = (name ≡ codes "threads") × IsWork found options
Asks found name (Replay options) = (name ≡ codes "replay") × IsSecondRun found options
Asks found name (Debug options) = (name ≡ codes "debug") × IsSession found options
Asks found name (Gdb options) = (name ≡ codes "gdb") × IsSession found options
Asks found name (Hunt options) = (name ≡ codes "hunt") × IsHunt found options
Asks found name (Outcomes options) = (name ≡ codes "outcomes") × IsSearch found options
Asks found name (Test options) = (name ≡ codes "test") × IsTrying found options
Asks found name (Stats options) = (name ≡ codes "stats") × IsCounting found options
Asks found name (Draw options) = (name ≡ codes "draw") × IsPicture found options
Asks found name (Page options) = (name ≡ codes "page") × IsPage found options
Asks found name (Explain options) =
    (name ≡ codes "explain") × (first_value found (codes "FAULT") ≡ option_copied options.fault)
