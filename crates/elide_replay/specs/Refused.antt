-- Why `elide replay` is refused (docs/FAULTS.md).
use Rattle.std.specs.Prelude.{◌≡◌, ℕ, Bool, true, false, List, Option, length, max, codes}
use Rattle.std.specs.Borrow.{Bor}
use Rattle.elide_args.specs.declared.subcommand.ReplayOptions.{ReplayOptions}
use Rattle.elide_program.specs.Settings.{has_store_buffer}
use Rattle.elide_setup.specs.Faults.{fault_number}
use Rattle.elide_setup.specs.Misuse.{IsMisuse}
use Rattle.elide_setup.specs.Refused.{IsAnyWant, IsCourseOf, IsNoBoard, IsNotScheduled, IsOverProgram, IsUnrecorded}
use Rattle.elide_setup.specs.Refused.{IsUnwritten, NamesNoCore}
use Rattle.elide_setup.specs.Schedules.{listed_in, most_of}
use Rattle.elide_setup.specs.Setup.{IsAsked}
use Rattle.elide_setup.specs.Shown.{are_held}
use Rattle.tm_hist.specs.Board.{ShownBoard as Board}
use Rattle.elide_setup.specs.declared.fault.Fault.{Fault}
use Rattle.elide_setup.specs.declared.fault.Fault.TheVariants as fault
use Rattle.elide_setup.specs.declared.fault.Refusal.{Refusal}
use Rattle.elide_setup.specs.declared.fault.Refusal.TheVariants as refusal
use Rattle.elide_setup.specs.declared.machine.Setup.{Setup}
use Rattle.elide_setup.specs.declared.plan.Course.{Course}
use Rattle.elide_why.specs.Refused.{IsNotRetold}
use Rattle.elide_replay.specs.Replayed.{IsBoardOf}

-- there is no memory for the serial run: fault 54
pub record HasNoSerial (why : Refusal) : Type 0 where
  pub cause : Fault
  pub tells : why ≡ refusal.Fault cause
  pub number : fault_number cause ≡ 54

-- a board with room for the steps of a course, and for one at least, is not made, or a listed step is of a core that it
-- has not; it makes each step that is due
pub data IsNotMade (setup : Setup) (asked : Course) (why : Refusal) : Type 0 where
  no_board : IsNoBoard setup (max (most_of asked) 1) why → IsNotMade setup asked why
  beyond : NamesNoCore (listed_in asked) (length setup.program.entries) why → IsNotMade setup asked why
  unroomed : IsAnyWant why → IsNotMade setup asked why

-- a board and its serial run are not compared and told: what is to be printed of memory is not there, there is no
-- memory, the schedule is not written, the reasons are not told, or the text is not written
pub data IsNotCompared (setup : Setup) (board : Board) (path : Option (Bor (List ℕ))) (why : Refusal) : Type 0 where
  unheld : are_held (length board.machine.memory) setup.parts ≡ false → why ≡ refusal.Fault fault.OutOfRange
      → IsNotCompared setup board path why
  no_serial : HasNoSerial why → IsNotCompared setup board path why
  unlisted : IsAnyWant why → IsNotCompared setup board path why
  unrecorded : IsUnrecorded path why → IsNotCompared setup board path why
  untold : IsNotRetold board.limits why → IsNotCompared setup board path why
  unwritten : IsUnwritten why → IsNotCompared setup board path why

-- reasons are asked for in an object, the path of `--record` is that of the program, there is no program or no schedule
-- by the options, or its board is not made, or not compared with the serial run
pub data IsRefused (content : List ℕ → Option (List ℕ)) (are_one : List ℕ → List ℕ → Option Bool)
    (options : ReplayOptions) (why : Refusal) : Type 0 where
  reasons_in_json : options.is_json ≡ true → options.explains ≡ true → IsMisuse (codes "--json") why
      → IsRefused content are_one options why
  over_program : IsOverProgram are_one options.record options.machine.file.now why
      → IsRefused content are_one options why
  unscheduled : IsNotScheduled content options.machine options.schedule why → IsRefused content are_one options why
  not_made : (setup : Setup) (asked : Course) → IsAsked (content options.machine.file.now) options.machine setup
      → IsCourseOf (has_store_buffer options.machine) content options.schedule asked → IsNotMade setup asked why
      → IsRefused content are_one options why
  not_compared : (setup : Setup) (board : Board) → IsAsked (content options.machine.file.now) options.machine setup
      → IsBoardOf setup board → IsNotCompared setup board options.record why → IsRefused content are_one options why
  no_room : IsAnyWant why → IsRefused content are_one options why
