use Rattle.std.proofs.Common.{◌<◌, length}
use Rattle.std.proofs.lemmas.Result.{IfErr-weaker}
use Rattle.tm_core.specs.Theorem.{ShownMachine as Machine}
use Rattle.tm_model.specs.declared.outcome.Pick.{Pick}
use Rattle.elide_setup.specs.declared.fault.Refusal.{Refusal}
use Rattle.elide_why.specs.Refused.{IsNotRetold, IsUntoldStep}
use Rattle.elide_why.proofs.Within.{of_history}
use Rattle.elide_why.proofs.history.tell_history.Goals as goal

pub returns-clause-refused : goal.returns-clause-refused
returns-clause-refused g c =
    IfErr-weaker c.tell_steps.result
    (λ (why : Refusal). (machine : Machine) × (pick : Pick) × (pick.core < length machine.views)
    × IsUntoldStep machine pick why)
    (IsNotRetold c.args.board.now.limits)
    (λ why h. of_history c.args.board.now.limits h.0 h.1 why h.2 h.3)
    c.tell_steps.ensures.refused
