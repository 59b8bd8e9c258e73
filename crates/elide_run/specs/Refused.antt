-- Why `elide run` is refused (docs/FAULTS.md).
use Rattle.std.specs.Prelude.{◌≡◌, ℕ, ◌||◌, ◌⊎◌, Bool, true, false, List, [], Option, length, codes}
use Rattle.std.specs.Borrow.{Bor}
use Rattle.elide_args.specs.declared.subcommand.RunOptions.{RunOptions}
use Rattle.elide_program.specs.Settings.{has_store_buffer}
use Rattle.elide_setup.specs.Misuse.{IsMisuse}
use Rattle.elide_setup.specs.Refused.{IsAnyWant, IsCourseOf, IsNoCore, IsNoMachine, IsNotScheduled, IsOverProgram}
use Rattle.elide_setup.specs.Refused.{IsUnrecorded, IsUntold, IsUnwritten, NamesNoCore}
use Rattle.elide_setup.specs.Runs.{IsRunOf}
use Rattle.elide_setup.specs.Schedules.{listed_in}
use Rattle.elide_setup.specs.Setup.{IsAsked}
use Rattle.elide_setup.specs.Shown.{are_held}
use Rattle.tm_core.specs.Theorem.{ShownMachine as Machine}
use Rattle.elide_setup.specs.declared.fault.Fault.TheVariants as fault
use Rattle.elide_setup.specs.declared.fault.Refusal.{Refusal}
use Rattle.elide_setup.specs.declared.fault.Refusal.TheVariants as refusal
use Rattle.elide_setup.specs.declared.machine.Setup.{Setup}
use Rattle.elide_setup.specs.declared.plan.Course.{Course}
use Rattle.tm_model.specs.declared.outcome.Outcome.{Outcome}
use Rattle.tm_model.specs.declared.outcome.Pick.{Pick}

-- a machine does not have what is to be printed of its memory
pub record HasNotAll (setup : Setup) (machine : Machine) (why : Refusal) : Type 0 where
  pub tells : why ≡ refusal.Fault fault.OutOfRange
  pub not_held : are_held (length machine.memory) setup.parts ≡ false

-- no machine is ready for a course: none is made, a listed step is of a core that it has not, or what is to be printed
-- of its memory is not there
pub data IsNotReady (setup : Setup) (asked : Course) (why : Refusal) : Type 0 where
  unmade : IsNoMachine setup.limits why → IsNotReady setup asked why
  beyond : NamesNoCore (listed_in asked) (length setup.program.entries) why → IsNotReady setup asked why
  unheld : (machine : Machine) → IsRunOf setup.program setup.limits [] machine → HasNotAll setup machine why
      → IsNotReady setup asked why

-- a step that is told with its instruction or its reason is refused: the machine has no core of its pick, its line is
-- not written, or there is no memory for it
abbrev pub IsUnexplained : Machine → Pick → Refusal → Type 0
IsUnexplained machine pick why = IsNoCore machine pick why ⊎ IsUntold why

-- a run along a course is not begun, or not made to its end: its schedule, or the line of a step, is not written, or
-- there is no memory for it
pub data IsNoRun (setup : Setup) (asked : Course) (path : Option (Bor (List ℕ))) (why : Refusal) : Type 0 where
  unready : IsNotReady setup asked why → IsNoRun setup asked path why
  unrecorded : IsUnrecorded path why → IsNoRun setup asked path why
  untold : IsUntold why → IsNoRun setup asked path why

-- options are asked for that do not go together, the path of `--record` is that of the program, there is no program or
-- no schedule by the options, no run of it, or what is to be printed below its steps is not there or not written
pub data IsRefused (content : List ℕ → Option (List ℕ)) (are_one : List ℕ → List ℕ → Option Bool)
    (options : RunOptions) (why : Refusal) : Type 0 where
  code_alone : options.shows_code ≡ true → options.traces ≡ false → IsMisuse (codes "--code") why
      → IsRefused content are_one options why
  reasons_in_json : options.is_json ≡ true → (options.explains || options.shows_code) ≡ true
      → IsMisuse (codes "--json") why → IsRefused content are_one options why
  over_program : IsOverProgram are_one options.record options.machine.file.now why
      → IsRefused content are_one options why
  unscheduled : IsNotScheduled content options.machine options.schedule why → IsRefused content are_one options why
  not_run : (setup : Setup) (asked : Course) → IsAsked (content options.machine.file.now) options.machine setup
      → IsCourseOf (has_store_buffer options.machine) content options.schedule asked
      → IsNoRun setup asked options.record why
      → IsRefused content are_one options why
  not_shown : (setup : Setup) (made : List (Pick × Outcome)) (machine : Machine)
      → IsAsked (content options.machine.file.now) options.machine setup
      → IsRunOf setup.program setup.limits made machine → HasNotAll setup machine why
      → IsRefused content are_one options why
  unwritten : IsUnwritten why → IsRefused content are_one options why
  no_room : IsAnyWant why → IsRefused content are_one options why
