-- Why a run does not stand in a page (docs/FAULTS.md; docs/FORMATS.md, "Pages").
use Rattle.std.specs.Prelude.{◌≡◌, ℕ, false, [], length, Option}
use Rattle.elide_setup.specs.Extents.{ComeBefore, HasNoFirst, IsLastBefore}
use Rattle.elide_setup.specs.Refused.{IsAnyWant, IsNoMachine, IsUntold, NamesNoCore}
use Rattle.elide_setup.specs.Runs.{IsRunOf}
use Rattle.elide_setup.specs.Schedules.{listed_in}
use Rattle.elide_setup.specs.Shown.{are_held}
use Rattle.tm_core.specs.Theorem.{ShownMachine as Machine}
use Rattle.elide_setup.specs.declared.fault.Fault.TheVariants as fault
use Rattle.elide_setup.specs.declared.fault.Refusal.{Refusal}
use Rattle.elide_setup.specs.declared.fault.Refusal.TheVariants as refusal
use Rattle.elide_setup.specs.declared.machine.Setup.{Setup}
use Rattle.elide_setup.specs.declared.plan.Course.{Course}
use Rattle.page_run.specs.declared.stretch.Stretch.{Stretch}

-- ---- the steps that are asked for

-- steps of a run of so many are asked for that it does not have, or none
pub data HasNoWindow (from to : Option ℕ) (total : ℕ) (why : Refusal) : Type 0 where
  no_first : HasNoFirst from total why → HasNoWindow from to total why
  no_last : (before : ℕ) → ComeBefore from total before → IsLastBefore to before why → HasNoWindow from to total why

-- ---- the run

-- it is not made: there is no machine with the limits, or a listed step is of a core that it has not
pub data IsNotMade (setup : Setup) (asked : Course) (why : Refusal) : Type 0 where
  no_machine : IsNoMachine setup.limits why → IsNotMade setup asked why
  no_core : NamesNoCore (listed_in asked) (length setup.program.entries) why → IsNotMade setup asked why

-- what is to be printed of the machine's memory is not there
pub record HasNoParts (setup : Setup) (why : Refusal) : Type 0 where
  pub machine : Machine
  pub new : IsRunOf setup.program setup.limits [] machine
  pub none : are_held (length machine.memory) setup.parts ≡ false
  pub tells : why ≡ refusal.Fault fault.OutOfRange

-- it is not surveyed
pub data IsNotSurveyed (setup : Setup) (asked : Course) (why : Refusal) : Type 0 where
  not_made : IsNotMade setup asked why → IsNotSurveyed setup asked why
  not_held : HasNoParts setup why → IsNotSurveyed setup asked why
  no_room : IsAnyWant why → IsNotSurveyed setup asked why

-- made once more, it is not told: that is not written, or there is no memory for it
pub data IsNotTold (stretch : Stretch) (why : Refusal) : Type 0 where
  not_made : IsNotMade stretch.setup.now stretch.course.now why → IsNotTold stretch why
  untold : IsUntold why → IsNotTold stretch why
