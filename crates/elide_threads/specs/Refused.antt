-- Why `elide threads` is refused (docs/FAULTS.md).
use Rattle.std.specs.Prelude.{◌≡◌, ◌*◌, ℕ, ◌⊎◌, Bool, true, false, List, Option, Some, None, length, codes}
use Rattle.std.specs.Borrow.{Bor}
use Rattle.std.specs.Option.{option_copied}
use Rattle.elide_args.specs.declared.subcommand.ThreadsOptions.{ThreadsOptions}
use Rattle.elide_program.specs.Settings.{number_said}
use Rattle.elide_setup.specs.Misuse.{IsMisuse}
use Rattle.elide_setup.specs.Refused.{HasNoSetup, IsAnyWant, IsNoBoard, IsOverProgram, IsUnrecorded, IsUnwritten}
use Rattle.elide_setup.specs.Setup.{IsAsked}
use Rattle.elide_setup.specs.Shown.{are_held}
use Rattle.tm_hist.specs.Board.{ShownBoard as Board}
use Rattle.elide_setup.specs.declared.fault.Fault.TheVariants as fault
use Rattle.elide_setup.specs.declared.fault.Refusal.{Refusal}
use Rattle.elide_setup.specs.declared.fault.Refusal.TheVariants as refusal
use Rattle.elide_setup.specs.declared.machine.Setup.{Setup}
use Rattle.elide_why.specs.Refused.{IsNotRetold}
use Rattle.tm_work.specs.declared.plan.EventPlan.{EventPlan}
use Rattle.elide_threads.specs.Burst.{burst_said}
use Rattle.elide_threads.specs.Plans.{plan_said}
use Rattle.elide_threads.specs.Printed.{IsWorked}

-- what is said of the events is misused
abbrev pub IsNoPlan : Refusal → Type 0
IsNoPlan why = IsMisuse (codes "--events") why ⊎ IsMisuse (codes "--seed") why

-- an option of the workers has a value that is not of its form, or the record would be written over the program
pub data IsMisworked (are_one : List ℕ → List ℕ → Option Bool) (options : ThreadsOptions) (why : Refusal)
    : Type 0 where
  bad_budget : number_said (option_copied options.budget) ≡ None → IsMisuse (codes "--budget") why
      → IsMisworked are_one options why
  bad_burst : burst_said (option_copied options.burst) ≡ None → IsMisuse (codes "--burst") why
      → IsMisworked are_one options why
  bad_plan : plan_said (option_copied options.events) (option_copied options.seed) ≡ None → IsNoPlan why
      → IsMisworked are_one options why
  over_program : IsOverProgram are_one options.record options.machine.file.now why → IsMisworked are_one options why

-- the system starts no thread for a core, or there is no memory for the workers or the record
abbrev pub IsNotWorked : Refusal → Type 0
IsNotWorked why = (why ≡ refusal.Fault fault.SpawnRefused) ⊎ (why ≡ refusal.Fault fault.NoWorkers)

-- what is asked for of a board that was worked on is not told: the reasons of its aborts or the counts of its
-- transactions, what is to be printed of memory, which is not there, or there is no memory for it
pub data IsNotTold (setup : Setup) (board : Board) (why : Refusal) : Type 0 where
  untold : IsNotRetold board.limits why → IsNotTold setup board why
  unheld : are_held (length board.machine.memory) setup.parts ≡ false → why ≡ refusal.Fault fault.OutOfRange
      → IsNotTold setup board why
  unwritten : IsUnwritten why → IsNotTold setup board why
  no_room_to_tell : IsAnyWant why → IsNotTold setup board why

-- a board with room for the budget of each core is not made, not worked on, or not told
pub data IsNoWork (setup : Setup) (budget : ℕ) (plan : EventPlan) (path : Option (Bor (List ℕ))) (why : Refusal)
    : Type 0 where
  no_board : IsNoBoard setup (length setup.program.entries * budget) why → IsNoWork setup budget plan path why
  not_worked : IsNotWorked why → IsNoWork setup budget plan path why
  unrecorded : IsUnrecorded path why → IsNoWork setup budget plan path why
  not_told : (board : Board) → IsWorked setup budget plan board → IsNotTold setup board why
      → IsNoWork setup budget plan path why
  unroomed : IsAnyWant why → IsNoWork setup budget plan path why

-- reasons are asked for in an object, an option is misused, there is no program by the options, or no work on it
pub data IsRefused (content : List ℕ → Option (List ℕ)) (are_one : List ℕ → List ℕ → Option Bool)
    (options : ThreadsOptions) (why : Refusal) : Type 0 where
  reasons_in_json : options.is_json ≡ true → options.counts ≡ false → options.explains ≡ true
      → IsMisuse (codes "--json") why → IsRefused content are_one options why
  misworked : IsMisworked are_one options why → IsRefused content are_one options why
  without_program : HasNoSetup content options.machine why → IsRefused content are_one options why
  no_work : (setup : Setup) (budget : ℕ) (plan : EventPlan)
      → IsAsked (content options.machine.file.now) options.machine setup
      → number_said (option_copied options.budget) ≡ Some budget
      → plan_said (option_copied options.events) (option_copied options.seed) ≡ Some plan
      → IsNoWork setup budget plan options.record why → IsRefused content are_one options why
  no_room : IsAnyWant why → IsRefused content are_one options why
