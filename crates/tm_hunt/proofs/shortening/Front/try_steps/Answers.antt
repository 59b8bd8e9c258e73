use Rattle.std.proofs.Common.{◌≡◌, ◌∙◌, List, ap, arith, subst, sym}
use Rattle.tm_model.specs.declared.outcome.Pick.{Pick}
use Rattle.tm_hunt.specs.Cost.{cost_of}
use Rattle.tm_hunt.specs.Deciding.{cost_told}
use Rattle.tm_hunt.specs.Kept.{ComesOf, HasDrain}
use Rattle.tm_hunt.proofs.Shortenings.{took_other}
use Rattle.tm_hunt.proofs.shortening.Front.try_steps.Goals as goal

pub returns-clause-shorter : goal.returns-clause-shorter
returns-clause-shorter c =
    let fails = rw c.in-Some.is at c.in_ok-failure.ensures.fails in
    let kinds = rw c.in-Some.is at c.in_ok-failure.ensures.kinds in
    let now : c.cost.result ≡ cost_told c.in-Some.failure = c.cost.ensures ∙ ap cost_of c.deciding.ensures in
    let before : c.cost-2.result ≡ cost_told c.args.best.now = c.cost-2.ensures ∙ ap cost_of c.deciding-2.ensures in
    let drains : HasDrain c.in-Some.failure.picks.items → HasDrain c.args.best.now.picks.items = λ some.
    subst HasDrain c.as_slice-2.ensures.value
    (c.has_no_new_drain.ensures c.if-not-has_no_new_drain.false
    (subst HasDrain (sym c.as_slice-3.ensures.value) some)) in
    took_other c.args.trial.now c.args.self.now _ c.args.best.now c.in-Some.failure fails
    c.if-failure-best.false
    (omega (arith, now, before)) c.requires.kinds
    (subst (λ (steps : List Pick). ComesOf c.args.trial.now.limits.stores steps c.in-Some.failure.picks.items)
    c.as_slice.ensures.value kinds)
    drains c.failure_of.ensures.of_trial
