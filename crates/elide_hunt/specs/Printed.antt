-- What `elide hunt` prints (docs/FORMATS.md, "Checks"), and of which search.
use Rattle.std.specs.Prelude.{◌≡◌, ◌≤◌, ⊤, ℕ, false, true, All, List, Option, Some, None, IfSome}
use Rattle.std.specs.Io.KnownBytes.{Appends}
use Rattle.std.specs.Option.{option_copied}
use Rattle.elide_args.specs.declared.hunt_options.HuntOptions.{HuntOptions}
use Rattle.elide_checks.specs.Checks.{AreChecks}
use Rattle.elide_checks.specs.Runs.{AreRuns, events_asked, method_word}
use Rattle.elide_checks.specs.declared.orders.Orders.{Orders}
use Rattle.elide_object.specs.Object.{object_text}
use Rattle.elide_program.specs.declared.file.ProgramFile.{ProgramFile}
use Rattle.elide_program.specs.Settings.{number_or, number_said}
use Rattle.elide_setup.specs.Jobs.{AreJobs}
use Rattle.elide_setup.specs.Recorded.{IsRecorded}
use Rattle.tm_schedule.specs.Schedule.{schedule_text}
use Rattle.elide_setup.specs.Setup.{IsAsked}
use Rattle.elide_setup.specs.declared.machine.Setup.{Setup}
use Rattle.tm_pick.specs.declared.method.Plan.{Plan}
use Rattle.tm_hunt.specs.Attempts.{IsFailure, IsSearch}
use Rattle.tm_hunt.specs.Cost.{cost_of}
use Rattle.tm_hunt.specs.Cycle.{IsCycle}
use Rattle.tm_hunt.specs.Deciding.{cost_told, deciding}
use Rattle.tm_hunt.specs.Kept.{KeepsKinds}
use Rattle.tm_hunt.specs.Sources.{IsPlannedRun}
use Rattle.tm_hunt.specs.declared.failure.Failure.{Failure}
use Rattle.tm_hunt.specs.declared.searching.Found.{Found}
use Rattle.tm_hunt.specs.declared.searching.Search.{Search}
use Rattle.tm_hunt.specs.declared.trial.Trial.{Trial}
use Rattle.elide_hunt.specs.Lates.{IsLate}
use Rattle.elide_hunt.specs.Lines.{counts_of, search_text}
use Rattle.elide_hunt.specs.Object.{search_value}
use Rattle.elide_hunt.specs.declared.command.Answer.{Answer}
use Rattle.elide_hunt.specs.declared.command.Answer.TheVariants.{NoneFailed, Failed}
use Rattle.elide_hunt.specs.declared.report.Beside.{Beside}

abbrev pub answer_of : Option Found → Answer
answer_of None = NoneFailed
answer_of (Some found) = Failed

-- the text of a search was written, or with `--json` its object, and the answer says whether a run failed
pub record IsTold (options : HuntOptions) (beside : Beside) (search : Search) (answer : Answer)
    (before after : Option (List ℕ)) : Type 0 where
  pub answered : answer ≡ answer_of search.found
  pub wrote : options.is_json ≡ false → Appends before after (search_text options beside search)
  pub object : options.is_json ≡ true → Appends before after (object_text (search_value options beside search))

-- the schedule of a run that failed was made simpler: it still violates the same check, its events are of the kinds
-- that were there; how long it was, the loop that it comes to for ever, where one is told, and stores of it that are
-- late past a load, of the steps that decide
pub record IsShortened (trial : Trial) (beside : Beside) (whole failure : Failure) : Type 0 where
  pub fails : IsFailure trial failure
  pub same : failure.check ≡ whole.check
  pub counted : beside.before ≡ counts_of whole.picks.items
  pub simpler : cost_told failure ≤ cost_of whole.picks.items
  pub kinds : KeepsKinds whole.picks.items failure.picks.items
  pub round : IfSome beside.cycle (IsCycle trial failure)
  pub lates : All (IsLate trial failure) beside.lates.items

-- of the first run that failed, if any
abbrev pub AreShortened : Trial → Beside → Option Found → Option Found → Type 0
AreShortened trial beside None None = ⊤
AreShortened trial beside (Some whole) (Some found) =
    (found.run ≡ whole.run) × IsShortened trial beside whole.failure found.failure
AreShortened trial beside None (Some found) = ⊥
AreShortened trial beside (Some whole) None = ⊥

-- a plan by which the orders' runs are made
pub record IsPlanOf (orders : Orders) (trial : Trial) (plan : Plan) : Type 0 where
  pub seed : plan.seed ≡ orders.seed
  pub method : plan.method ≡ orders.method
  pub events : plan.events ≡ orders.events
  pub length : plan.length ≤ trial.most

-- what a search came to over the orders' runs, each the plan's run of its number, and whose schedule was shortened then
pub record IsHunted (trial : Trial) (orders : Orders) (beside : Beside) (search : Search) : Type 0 where
  pub plan : Plan
  pub planned : IsPlanOf orders trial plan
  pub whole : Search
  pub came_to : IsSearch trial (IsPlannedRun plan) orders.first orders.end whole
  pub ended : search.ended ≡ whole.ended
  pub cut : search.cut ≡ whole.cut
  pub found : AreShortened trial beside whole.found search.found

-- what is asked of a search is what the options say
pub record AreOrders (options : HuntOptions) (orders : Orders) : Type 0 where
  pub runs : AreRuns (option_copied options.runs) orders.first orders.end
  pub seed : number_said (option_copied options.seed) ≡ Some orders.seed
  pub method : option_copied options.method ≡ Some (method_word orders.method)
  pub events : events_asked (option_copied options.events) ≡ Some orders.events
  pub most : number_or 1000000 (option_copied options.limit) ≡ Some orders.most
  pub jobs : AreJobs (option_copied options.jobs) orders.jobs

-- the trial is of this program, these limits and so many steps, and its checks are those of the options, by the symbols
-- of the program that a text is read as
pub record IsTrialOf (text : List ℕ) (file : ProgramFile) (options : HuntOptions) (setup : Setup) (orders : Orders)
    (trial : Trial) : Type 0 where
  pub program : trial.program.now ≡ setup.program
  pub limits : trial.limits ≡ setup.limits
  pub most : trial.most ≡ orders.most
  pub checks : AreChecks text file options trial.checks.now

-- the search of the machine of the options and of what FILE's content is read as, over the runs of the options, came
-- to this
pub record IsSearched (content : List ℕ → Option (List ℕ)) (options : HuntOptions) (search : Search) : Type 0 where
  pub setup : Setup
  pub asked : IsAsked (content options.machine.file.now) options.machine setup
  pub orders : Orders
  pub ordered : AreOrders options orders
  pub trial : Trial
  pub made : IsTrialOf asked.read.text asked.file options setup orders trial
  pub beside : Beside
  pub hunted : IsHunted trial orders beside search

-- what it came to was printed, and where a run failed the steps that decide are recorded
pub record IsPrinted (content left : List ℕ → Option (List ℕ)) (options : HuntOptions) (answer : Answer)
    (before after : Option (List ℕ)) : Type 0 where
  pub search : Search
  pub searched : IsSearched content options search
  pub told : IsTold options searched.beside search answer before after
  pub recorded : IfSome search.found (λ found. IsRecorded left options.record (schedule_text (deciding found.failure)))
