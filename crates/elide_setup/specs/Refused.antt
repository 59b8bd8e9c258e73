-- Why a program, its machine or its schedule is not had (docs/FAULTS.md). Want of memory is a reason wherever memory is
-- taken.
use Rattle.std.specs.Prelude.{◌≡◌, ◌≤◌, ℕ, ◌<◌, ◌⊎◌, ◌||◌, Bool, true, false, not, if◌then◌else◌}
use Rattle.std.specs.Prelude.{List, [], ◌∷◌, ◌++◌, length, Contains, Option, Some, None, Err, IfSome, IsSome, codes}
use Rattle.std.specs.Prelude.{is_some}
use Rattle.std.specs.Borrow.{Bor}
use Rattle.std.specs.Option.{option_copied}
use Rattle.elide_args.specs.declared.subcommand.MachineOptions.{MachineOptions}
use Rattle.elide_args.specs.declared.subcommand.ScheduleOptions.{ScheduleOptions}
use Rattle.elide_program.specs.Entries.{AreStarts}
use Rattle.elide_program.specs.Faults.{unread}
use Rattle.elide_program.specs.Files.{Gives, Refuses, Tells, most_bytes}
use Rattle.elide_program.specs.ProgramFile.{IsFile, IsRead, TellsLoad}
use Rattle.elide_program.specs.Refusals.{HasNoPart, HasNoStarts, IsMisread, IsNoProgram}
use Rattle.elide_program.specs.Settings.{AreSettings, word32}
use Rattle.elide_program.specs.declared.fault.ProgramRefusal.{ProgramRefusal}
use Rattle.elide_program.specs.declared.file.ProgramFile.{ProgramFile}
use Rattle.elide_program.specs.declared.paths.ReadFault.{ReadFault}
use Rattle.elide_program.specs.declared.paths.ReadFault.TheVariants as read
use Rattle.elide_program.specs.declared.settings.Settings.{Settings}
use Rattle.tm_model.specs.Runs.{picks_of}
use Rattle.tm_model.specs.declared.outcome.Outcome.{Outcome}
use Rattle.tm_model.specs.declared.outcome.Pick.{Pick}
use Rattle.tm_schedule.specs.Schedule.{schedule_of, steps_of}
use Rattle.tm_schedule.specs.declared.schedule.ScheduleFault.{ScheduleFault}
use Rattle.tm_schedule.specs.declared.schedule.ScheduleFault.TheVariants as no_steps
use Rattle.elide_setup.specs.Events.{events_said}
use Rattle.elide_setup.specs.Faults.{not_written, refusal_of, want}
use Rattle.elide_setup.specs.Misuse.{IsMisuse}
use Rattle.elide_setup.specs.Drawing.{ComeAs, limit_said}
use Rattle.elide_setup.specs.Rounds.{has_stopped}
use Rattle.elide_setup.specs.Runs.{IsRunOf}
use Rattle.elide_setup.specs.Schedules.{AreAsked, AreOf, are_listed, picks_made}
use Rattle.elide_setup.specs.Setup.{IsSetup}
use Rattle.elide_setup.specs.Shown.{are_held}
use Rattle.tm_core.specs.declared.limits.Limits.{Limits}
use Rattle.tm_core.specs.Theorem.{ShownMachine as Machine}
use Rattle.tm_hist.specs.Board.{IsFull, IsNew, ShownBoard as Board, bad_limit as is_bad_limit}
use Rattle.elide_setup.specs.Walks.{Leads}
use Rattle.text_out.specs.declared.out.WriteFault.{WriteFault}
use Rattle.tm_core.specs.Machine.{bad_limits}
use Rattle.tm_core.specs.declared.fault.MachineFault.{MachineFault}
use Rattle.tm_core.specs.declared.fault.MachineFault.TheVariants as machine
use Rattle.tm_core.specs.declared.fault.RunFault.TheVariants as run
use Rattle.tm_hist.specs.declared.board.BoardFault.{BoardFault}
use Rattle.tm_hist.specs.declared.board.BoardFault.TheVariants as board
use Rattle.tm_hist.specs.declared.board.StepFault.TheVariants as step
use Rattle.elide_setup.specs.declared.fault.Fault.TheVariants as fault
use Rattle.elide_setup.specs.declared.fault.Refusal.{Refusal}
use Rattle.elide_setup.specs.declared.fault.Refusal.TheVariants as refusal
use Rattle.elide_setup.specs.declared.machine.Setup.{Setup}
use Rattle.elide_setup.specs.declared.plan.Course.{Course}
use Rattle.elide_setup.specs.declared.plan.Course.TheVariants as course
use Rattle.elide_setup.specs.declared.plan.Drawn.{Drawn}
use Rattle.elide_setup.specs.declared.plan.Plan.{Plan}
use Rattle.elide_setup.specs.declared.plan.Plan.TheVariants as plan

-- ---- the program

-- the starts are those of so many cores, or both are more than a machine has
pub record AreAsMany (cores : ℕ) (starts : List ℕ) : Type 0 where
  pub few : length starts ≤ 64 → length starts ≡ cores
  pub many : 64 < length starts → 64 < cores

-- a file is not loaded as the settings say: they ask for starts or for parts of memory that it does not have, or the
-- loader refuses it with this memory and a core for each start
pub data IsNotLoaded (file : ProgramFile) (settings : Settings) (why : ProgramRefusal) : Type 0 where
  no_starts : HasNoStarts file settings.entries settings.cores why → IsNotLoaded file settings why
  no_parts : HasNoPart file settings.dumps.now settings.shows.now why → IsNotLoaded file settings why
  refused : (starts : List ℕ) → AreAsMany settings.cores starts
      → (length starts ≤ 64 → AreStarts file settings.entries settings.cores starts)
      → TellsLoad file settings.memory starts why → IsNotLoaded file settings why

-- a text gives no program: it is none, or it is not loaded as the settings say
pub data GivesNoProgram (text : List ℕ) (settings : Settings) (why : Refusal) : Type 0 where
  is_none : (cause : ProgramRefusal) → IsNoProgram text cause → why ≡ refusal_of cause
      → GivesNoProgram text settings why
  is_not_loaded : (file : ProgramFile) (cause : ProgramRefusal) → IsFile text file → IsNotLoaded file settings cause
      → why ≡ refusal_of cause → GivesNoProgram text settings why

-- the program of FILE, of this content, is not had: an option of its machine is misread, FILE is not read, its content
-- is no program, or that is not loaded
pub data HasNoProgram (content : Option (List ℕ)) (options : MachineOptions) (why : ProgramRefusal) : Type 0 where
  misread : IsMisread options why → HasNoProgram content options why
  not_read : Tells unread content why → HasNoProgram content options why
  no_program : (text : List ℕ) → Gives content most_bytes text → IsNoProgram text why → HasNoProgram content options why
  not_loaded : (file : ProgramFile) (settings : Settings) → IsRead content file → AreSettings options settings
      → IsNotLoaded file settings why → HasNoProgram content options why

-- ---- the schedule

-- exactly one way to say a schedule is taken
abbrev pub is_one_way : ScheduleOptions → Bool
is_one_way options =
    if is_some options.steps then not (is_some options.path || (options.in_turn || is_some options.random))
    else if is_some options.path then not (options.in_turn || is_some options.random)
    else if options.in_turn then not (is_some options.random)
    else is_some options.random

-- none of them is
abbrev pub is_no_way : ScheduleOptions → Bool
is_no_way options =
    not (is_some options.steps || (is_some options.path || (options.in_turn || is_some options.random)))

-- the option of a schedule that is named is misused
pub data IsMisplanned (options : ScheduleOptions) (why : Refusal) : Type 0 where
  -- none of the ways to say a schedule is taken, or more than one
  no_way : is_one_way options ≡ false → IsMisuse (codes "--steps") why → IsMisplanned options why
  events_alone : is_no_way options ≡ true → is_some options.events ≡ true → IsMisuse (codes "--events") why
      → IsMisplanned options why
  -- what is said of a draw, beside a list
  listed_limit : are_listed options ≡ true → is_some options.limit ≡ true → IsMisuse (codes "--limit") why
      → IsMisplanned options why
  listed_events : are_listed options ≡ true → is_some options.events ≡ true → IsMisuse (codes "--events") why
      → IsMisplanned options why
  listed_seed : are_listed options ≡ true → is_some options.seed ≡ true → IsMisuse (codes "--seed") why
      → IsMisplanned options why
  -- a value that is not of its form
  bad_steps : (text : List ℕ) (line : ℕ) → option_copied options.steps ≡ Some text
      → steps_of text ≡ Err (no_steps.BadSchedule line) → IsMisuse (codes "--steps") why → IsMisplanned options why
  other_steps : (text : List ℕ) (f : ScheduleFault) → option_copied options.steps ≡ Some text → steps_of text ≡ Err f
      → why ≡ refusal.Fault (fault.Schedule f) → IsMisplanned options why
  bad_random : (text : List ℕ) → option_copied options.random ≡ Some text → word32 text ≡ None
      → IsMisuse (codes "--random") why → IsMisplanned options why
  bad_events : (text : List ℕ) → option_copied options.events ≡ Some text → events_said text ≡ None
      → IsMisuse (codes "--events") why → IsMisplanned options why
  bad_seed : (text : List ℕ) → option_copied options.seed ≡ Some text → word32 text ≡ None
      → IsMisuse (codes "--seed") why → IsMisplanned options why
  bad_limit : limit_said (option_copied options.limit) ≡ None → IsMisuse (codes "--limit") why
      → IsMisplanned options why
  -- a seed that draws no events, or a second one
  idle_seed : is_some options.seed ≡ true → options.events ≡ None → IsMisuse (codes "--seed") why
      → IsMisplanned options why
  second_seed : is_some options.seed ≡ true → is_some options.random ≡ true → IsMisuse (codes "--seed") why
      → IsMisplanned options why
  no_list : why ≡ refusal.Fault (fault.Schedule no_steps.NoMemory) → IsMisplanned options why

-- why a schedule's file is not read: want of memory is the schedule's fault
abbrev pub unread_schedule : ReadFault → Refusal
unread_schedule (read.Failed obstacle) = refusal.Fault (fault.Program (unread (read.Failed obstacle)))
unread_schedule read.TooLong = refusal.Fault (fault.Program (unread read.TooLong))
unread_schedule read.NoMemory = refusal.Fault (fault.Schedule no_steps.NoMemory)

-- a file of this content gives no schedule
pub data HasNoSchedule (content : Option (List ℕ)) (why : Refusal) : Type 0 where
  schedule_unread : (f : ReadFault) → Refuses content most_bytes f → why ≡ unread_schedule f → HasNoSchedule content why
  no_schedule : (text : List ℕ) (f : ScheduleFault) → Gives content most_bytes text → schedule_of text ≡ Err f
      → why ≡ refusal.Fault (fault.Schedule f) → HasNoSchedule content why
  no_room : why ≡ refusal.Fault (fault.Schedule no_steps.NoMemory) → HasNoSchedule content why

-- the path of a plan's file
abbrev pub plan_path : Plan → Option (Bor (List ℕ))
plan_path (plan.Steps listed) = None
plan_path (plan.File path) = Some path
plan_path (plan.Drawn drawn) = None

-- a plan that was read gives no course: its file gives no schedule
pub record HasNoCourse (content : List ℕ → Option (List ℕ)) (asked : Plan) (why : Refusal) : Type 0 where
  pub path : Bor (List ℕ)
  pub planned : plan_path asked ≡ Some path
  pub none : HasNoSchedule (content path.now) why

-- a file is not loaded as the settings say, or its schedule is not had
pub data IsNotPlanned (content : List ℕ → Option (List ℕ)) (file : ProgramFile) (settings : Settings) (asked : Plan)
    (why : Refusal) : Type 0 where
  unloaded : (cause : ProgramRefusal) → IsNotLoaded file settings cause → why ≡ refusal_of cause
      → IsNotPlanned content file settings asked why
  uncharted : HasNoCourse content asked why → IsNotPlanned content file settings asked why

-- a command has no program or no schedule by its options
pub data IsNotScheduled (content : List ℕ → Option (List ℕ)) (options : MachineOptions) (schedule : ScheduleOptions)
    (why : Refusal) : Type 0 where
  no_setup : (cause : ProgramRefusal) → HasNoProgram (content options.file.now) options cause → why ≡ refusal_of cause
      → IsNotScheduled content options schedule why
  misplanned : IsMisplanned schedule why → IsNotScheduled content options schedule why
  no_file : (path : Bor (List ℕ)) → schedule.path ≡ Some path → HasNoSchedule (content path.now) why
      → IsNotScheduled content options schedule why

-- there is no program by the options, whichever schedule is asked for
abbrev pub HasNoSetup : (List ℕ → Option (List ℕ)) → MachineOptions → Refusal → Type 0
HasNoSetup content options why = (any : ScheduleOptions) → IsNotScheduled content options any why

-- a listed step is of a core that a machine of so many has not
pub record NamesNoCore (listed : List Pick) (cores : ℕ) (why : Refusal) : Type 0 where
  pub tells : why ≡ refusal.Fault (fault.Run run.NoSuchCore)
  pub pick : Pick
  pub among : Contains listed pick
  pub beyond : cores ≤ pick.core

-- memory is wanting for a program or its text, and for a schedule
abbrev pub IsAnyWant : Refusal → Type 0
IsAnyWant why = (why ≡ want) ⊎ (why ≡ refusal.Fault (fault.Run run.NoMemory))

-- the course is that of the schedule that the options ask for, where stores may be pending or not
abbrev pub IsCourseOf : Bool → (List ℕ → Option (List ℕ)) → ScheduleOptions → Course → Type 0
IsCourseOf drains content schedule asked =
    (picks : List Pick) → AreOf asked picks → AreAsked drains content schedule picks

-- ---- the machine

-- no machine with these limits is made: a limit is none, or memory was wanting
pub record IsNoMachine (limits : Limits) (why : Refusal) : Type 0 where
  pub cause : MachineFault
  pub tells : why ≡ refusal.Fault (fault.Machine cause)
  pub limited : cause ≡ machine.BadLimits → bad_limits limits ≡ true

-- no board with room for so many steps is made: the same, or there is no such room; or what is to be printed of memory
-- is not there
pub data IsNoBoard (setup : Setup) (limit : ℕ) (why : Refusal) : Type 0 where
  not_made : (cause : BoardFault) → why ≡ refusal.Fault (fault.Board cause)
      → (cause ≡ board.BadLimit → is_bad_limit limit ≡ true)
      → (cause ≡ board.BadLimits → bad_limits setup.limits ≡ true)
      → IsNoBoard setup limit why
  not_held : (board : Board) → IsNew setup.program setup.limits limit board
      → are_held (length board.machine.memory) setup.parts ≡ false → why ≡ refusal.Fault fault.OutOfRange
      → IsNoBoard setup limit why

-- ---- the paths

-- two paths lead to one file, or to two, as far as that is known
abbrev pub AreOne : Option Bool → Bool → Type 0
AreOne known one = IfSome known (λ is. is ≡ one)

-- the path of `--record` leads to the program
pub record IsOverProgram (are_one : List ℕ → List ℕ → Option Bool) (path : Option (Bor (List ℕ))) (file : List ℕ)
    (why : Refusal) : Type 0 where
  pub given : Bor (List ℕ)
  pub is : path ≡ Some given
  pub one : AreOne (are_one given.now file) true
  pub named : IsMisuse (codes "--record") why

-- that of `--page` leads to the program, or is that of the record
pub record IsPageOver (are_one : List ℕ → List ℕ → Option Bool) (path : Option (Bor (List ℕ))) (file : List ℕ)
    (recorded : Option (List ℕ)) (why : Refusal) : Type 0 where
  pub given : Bor (List ℕ)
  pub is : path ≡ Some given
  pub one : AreOne (are_one given.now file) true
      ⊎ ((other : List ℕ) × (recorded ≡ Some other) × ((other ≡ given.now) ⊎ AreOne (are_one given.now other) true))
  pub named : IsMisuse (codes "--page") why

-- ---- steps

-- a machine makes no step of a pick: it has no core of this number
pub record IsNoCore (machine : Machine) (pick : Pick) (why : Refusal) : Type 0 where
  pub tells : why ≡ refusal.Fault (fault.Run run.NoSuchCore)
  pub beyond : length machine.views ≤ pick.core

-- a board makes no step of a pick: its program has no core of this number, or its history is full
pub data IsNoStep (board : Board) (pick : Pick) (why : Refusal) : Type 0 where
  no_core : length board.program.entries ≤ pick.core → why ≡ refusal.Fault (fault.Step step.NoSuchCore)
      → IsNoStep board pick why
  full : IsFull board → why ≡ refusal.Fault (fault.Step step.LimitReached) → IsNoStep board pick why

-- behind these steps a step of a list is due: the next one
abbrev pub IsNextOf : List Pick → List (Pick × Outcome) → Pick → Type 0
IsNextOf listed made pick = (later : List Pick) × (listed ≡ picks_made made ++ pick ∷ later)

-- one of a board's history, each of which is of one of its program's cores
pub record IsNextMade (board : Board) (made : List (Pick × Outcome)) (pick : Pick) : Type 0 where
  pub next : IsNextOf (picks_of board.history) made pick
  pub core : pick.core < length board.program.entries

-- one that is drawn on so many cores: of a core that has not stopped, where fewer steps were made than may be drawn
pub record IsNextDrawn (drawn : Drawn) (cores : ℕ) (made : List (Pick × Outcome)) (pick : Pick) : Type 0 where
  pub few : length made < drawn.most
  pub core : pick.core < cores
  pub going : has_stopped made pick.core ≡ false
  pub come : ComeAs drawn (picks_made made ++ pick ∷ [])

-- one of a course
abbrev pub IsDue : Course → ℕ → List (Pick × Outcome) → Pick → Type 0
IsDue (course.Listed listed) cores made pick = IsNextOf listed.items made pick
IsDue (course.Drawn drawn) cores made pick = IsNextDrawn drawn cores made pick

-- a step that is due is refused, behind steps that were made
pub record IsStepRefused {Maker : Type 0} (takes : Maker → List (Pick × Outcome) → Maker → Type 0)
    (refuses : Maker → Pick → Refusal → Type 0) (is_due : List (Pick × Outcome) → Pick → Type 0) (before : Maker)
    (why : Refusal) : Type 0 where
  pub made : List (Pick × Outcome)
  pub after : Maker
  pub lead : Leads takes before made after
  pub pick : Pick
  pub due : is_due made pick
  pub refused : refuses after pick why

-- steps are not made: one that is due is refused, or there is no memory for the schedule that comes about
abbrev pub IsNoWalk : {Maker : Type 0} → (Maker → List (Pick × Outcome) → Maker → Type 0)
    → (Maker → Pick → Refusal → Type 0) → Course → ℕ → Maker → Refusal → Type 0
IsNoWalk takes refuses asked cores before why =
    IsStepRefused takes refuses (IsDue asked cores) before why ⊎ (why ≡ refusal.Fault (fault.Run run.NoMemory))

-- the schedule is not written, where there is a path
abbrev pub IsUnrecorded : Option (Bor (List ℕ)) → Refusal → Type 0
IsUnrecorded path why = (why ≡ refusal.Fault fault.Output) × IsSome path

-- a text is not written
abbrev pub IsUnwritten : Refusal → Type 0
IsUnwritten why = (cause : WriteFault) × (why ≡ not_written cause)

-- nor told, where there is no memory for it
abbrev pub IsUntold : Refusal → Type 0
IsUntold why = IsUnwritten why ⊎ IsAnyWant why

-- ---- pages

-- The page of a run is not written, of the program whose text FILE has and by the options of its machine: an option is
-- misread, the text is no program or is not loaded, no machine is made, a step is of a core that it has not, what is to
-- be printed of its memory is not there, the file cannot be written, or there is no memory.
pub data IsNotPaged (text : List ℕ) (options : MachineOptions) (picks : List Pick) (why : Refusal) : Type 0 where
  misread : (cause : ProgramRefusal) → IsMisread options cause → why ≡ refusal_of cause
      → IsNotPaged text options picks why
  no_program : (cause : ProgramRefusal) → IsNoProgram text cause → why ≡ refusal_of cause
      → IsNotPaged text options picks why
  not_loaded : (file : ProgramFile) (settings : Settings) (cause : ProgramRefusal) → IsFile text file
      → AreSettings options settings → IsNotLoaded file settings cause → why ≡ refusal_of cause
      → IsNotPaged text options picks why
  no_machine : (file : ProgramFile) (settings : Settings) (setup : Setup) → IsFile text file
      → AreSettings options settings → IsSetup file settings setup → IsNoMachine setup.limits why
      → IsNotPaged text options picks why
  no_core : (file : ProgramFile) (settings : Settings) (setup : Setup) → IsFile text file
      → AreSettings options settings → IsSetup file settings setup
      → NamesNoCore picks (length setup.program.entries) why → IsNotPaged text options picks why
  not_held : (file : ProgramFile) (settings : Settings) (setup : Setup) (machine : Machine) → IsFile text file
      → AreSettings options settings → IsSetup file settings setup → IsRunOf setup.program setup.limits [] machine
      → are_held (length machine.memory) setup.parts ≡ false → why ≡ refusal.Fault fault.OutOfRange
      → IsNotPaged text options picks why
  no_file : why ≡ refusal.Fault fault.Output → IsNotPaged text options picks why
  no_room : IsAnyWant why → IsNotPaged text options picks why
