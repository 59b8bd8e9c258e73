use Rattle.std.proofs.Common.{◌≡◌, ◌∷◌, sym, ap, ◌∙◌, subst}
use Rattle.std.specs.Prelude.{Contains}
use Rattle.tm_core.specs.Theorem.{pending_at}
use Rattle.tm_model.specs.Conflicts.{addresses_drained}
use Rattle.tm_model.specs.State.{Pending}
use Rattle.tm_outcomes.proofs.Noted.{drained_is}
use Rattle.tm_outcomes.proofs.written.Written.add_drained.Goals as goal

pub returns-clause-all : goal.returns-clause-all
returns-clause-all c = λ address among.
    let oldest = c.in-Some.oldest.now in
    let younger : Pending = c.in-Some._younger.now in
    let stores : oldest ∷ younger ≡ pending_at c.args.machine.now c.args.core =
    sym c.in-Some.ensures.cases.0 ∙ c.in-Ok.ensures.shown in
    c.in_ok-add_access.ensures.all address
    (subst (λ xs. Contains xs address) (ap addresses_drained (sym stores) ∙ drained_is oldest younger) among)
