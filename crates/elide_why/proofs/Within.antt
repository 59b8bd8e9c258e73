-- A step of a core that the machine has is refused where its line is not written alone.
use Rattle.std.proofs.Common.{◌<◌, ◌≤◌, length, arith, inl, inr}
use Rattle.tm_model.specs.declared.outcome.Pick.{Pick}
use Rattle.tm_core.specs.Theorem.{ShownMachine as Machine}
use Rattle.tm_core.specs.declared.limits.Limits.{Limits}
use Rattle.elide_setup.specs.Refused.{IsAnyWant}
use Rattle.elide_setup.specs.declared.fault.Refusal.{Refusal}
use Rattle.elide_why.specs.Refused.{IsNotRetold, IsUntoldStep}

-- of a board's history
pub of_history : (limits : Limits) (machine : Machine) (pick : Pick) (why : Refusal) → pick.core < length machine.views
    → IsUntoldStep machine pick why → IsNotRetold limits why
of_history limits machine pick why within (inl none) =
    let beyond : length machine.views ≤ pick.core = none.beyond in
    absurd (omega arith)
of_history limits machine pick why within (inr h) = inr (inl h)

-- nor its memory
pub no_memory : (limits : Limits) (why : Refusal) → IsAnyWant why → IsNotRetold limits why
no_memory limits why h = inr (inr h)
