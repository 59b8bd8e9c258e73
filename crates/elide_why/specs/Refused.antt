-- Why a step that is told of is refused (docs/FAULTS.md).
use Rattle.std.specs.Prelude.{◌⊎◌}
use Rattle.tm_model.specs.declared.outcome.Pick.{Pick}
use Rattle.elide_setup.specs.Refused.{IsNoCore, IsNoMachine, IsUntold, IsUnwritten}
use Rattle.tm_core.specs.declared.limits.Limits.{Limits}
use Rattle.tm_core.specs.Theorem.{ShownMachine as Machine}
use Rattle.elide_setup.specs.declared.fault.Refusal.{Refusal}

-- a step whose line is written is refused: the machine has no core of its pick, or the line is not written
abbrev pub IsUntoldStep : Machine → Pick → Refusal → Type 0
IsUntoldStep machine pick why = IsNoCore machine pick why ⊎ IsUnwritten why

-- the steps of a board are not told again: no machine with its limits is made, a line is not written, or there is no
-- memory for the stores that are pending
abbrev pub IsNotRetold : Limits → Refusal → Type 0
IsNotRetold limits why = IsNoMachine limits why ⊎ IsUntold why
