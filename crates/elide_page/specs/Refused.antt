-- Why a page is not written (docs/FAULTS.md).
use Rattle.std.specs.Prelude.{◌≡◌, ◌⊎◌, ℕ, List}
use Rattle.elide_setup.specs.Refused.{IsNoCore, IsUntold}
use Rattle.tm_core.specs.Theorem.{ShownMachine as Machine}
use Rattle.elide_setup.specs.declared.fault.Fault.TheVariants as fault
use Rattle.elide_setup.specs.declared.fault.Refusal.{Refusal}
use Rattle.elide_setup.specs.declared.fault.Refusal.TheVariants as refusal
use Rattle.elide_setup.specs.declared.machine.Setup.{Setup}
use Rattle.elide_setup.specs.declared.plan.Course.{Course}
use Rattle.tm_model.specs.declared.outcome.Pick.{Pick}
use Rattle.page_run.specs.Refused.{IsNotSurveyed}

-- a step whose reason is told is refused: there is no such core, its line is not written, or there is no memory for it
abbrev pub IsUnreasoned : Machine → Pick → Refusal → Type 0
IsUnreasoned machine pick why = IsNoCore machine pick why ⊎ IsUntold why

-- a run is not written as a page to a file: it is not surveyed, or the file cannot be written
abbrev pub IsNoPage : Setup → Course → Refusal → Type 0
IsNoPage setup asked why = IsNotSurveyed setup asked why ⊎ (why ≡ refusal.Fault fault.Output)
