-- A run that a command makes by its options, and records.
use Rattle.std.specs.Prelude.{ℕ, List, Option}
use Rattle.std.specs.Borrow.{Bor}
use Rattle.elide_args.specs.declared.subcommand.MachineOptions.{MachineOptions}
use Rattle.elide_args.specs.declared.subcommand.ScheduleOptions.{ScheduleOptions}
use Rattle.elide_program.specs.Settings.{has_store_buffer}
use Rattle.elide_program.specs.declared.file.ProgramFile.{ProgramFile}
use Rattle.elide_program.specs.declared.settings.Settings.{Settings}
use Rattle.tm_model.specs.declared.outcome.Outcome.{Outcome}
use Rattle.tm_model.specs.declared.outcome.Pick.{Pick}
use Rattle.elide_setup.specs.Recorded.{IsRecorded}
use Rattle.elide_setup.specs.Runs.{IsRunOf}
use Rattle.elide_setup.specs.Schedules.{AreAsked, AreOf, ArePlanned, picks_made, picks_told, plan_form}
use Rattle.elide_setup.specs.Schedules.{recorded_text, schedule_asked, schedule_made}
use Rattle.elide_setup.specs.Setup.{IsAsked, IsSetup}
use Rattle.tm_core.specs.Theorem.{ShownMachine as Machine}
use Rattle.elide_setup.specs.declared.machine.Setup.{Setup}
use Rattle.elide_setup.specs.declared.plan.Course.{Course}
use Rattle.elide_setup.specs.declared.plan.Plan.{Plan}

-- steps along a course, each with its outcome, were made of the program by the rules, and the file that the schedule is
-- recorded in is left with that of these steps
pub record HasRunCourse (left : List ℕ → Option (List ℕ)) (setup : Setup) (course : Course)
    (path : Option (Bor (List ℕ))) : Type 0 where
  pub made : List (Pick × Outcome)
  pub steps : AreOf course (picks_made made)
  pub machine : Machine
  pub ran : IsRunOf setup.program setup.limits made machine
  pub recorded : IsRecorded left path (schedule_made course (picks_told made))

-- the same along a plan, of the program of a file with these settings
pub record HasRunPlan (content left : List ℕ → Option (List ℕ)) (file : ProgramFile) (settings : Settings) (plan : Plan)
    (path : Option (Bor (List ℕ))) : Type 0 where
  pub setup : Setup
  pub loaded : IsSetup file settings setup
  pub made : List (Pick × Outcome)
  pub steps : ArePlanned content plan (picks_made made)
  pub machine : Machine
  pub ran : IsRunOf setup.program setup.limits made machine
  pub recorded : IsRecorded left path (recorded_text (plan_form plan) made)

-- the same as the options of a command ask, of what FILE's content is read as
pub record HasRun (content left : List ℕ → Option (List ℕ)) (options : MachineOptions) (schedule : ScheduleOptions)
    (path : Option (Bor (List ℕ))) : Type 0 where
  pub setup : Setup
  pub asked : IsAsked (content options.file.now) options setup
  pub made : List (Pick × Outcome)
  pub steps : AreAsked (has_store_buffer options) content schedule (picks_made made)
  pub machine : Machine
  pub ran : IsRunOf setup.program setup.limits made machine
  pub recorded : IsRecorded left path (schedule_asked (has_store_buffer options) schedule made)
