use Rattle.std.proofs.Common.{Option, IfOk, sym, subst}
use Rattle.tm_core.specs.Theorem.{StandsFor, TakesStepUnder}
use Rattle.tm_model.specs.Conflicts.{Doomed}
use Rattle.tm_model.specs.State.{State}
use Rattle.tm_model.specs.declared.outcome.Event.{Event}
use Rattle.tm_model.specs.declared.outcome.Outcome.{Outcome}
use Rattle.tm_outcomes.proofs.place.step_by.Goals as goal

pub returns-in-Some-clause-ok : goal.returns-in-Some-clause-ok
returns-in-Some-clause-ok c =
    let machine = c.args.machine.now in
    subst
    (λ (event : Option Event). IfOk c.step_under.result (λ (outcome : Outcome). (state : State) (doomed : Doomed) →
    StandsFor machine state doomed →
    TakesStepUnder event machine c.step_under.new.self state doomed c.args.pick.core outcome)) (sym c.in-Some.is)
    c.step_under.ensures.ok

pub returns-in-None-clause-ok : goal.returns-in-None-clause-ok
returns-in-None-clause-ok c =
    let machine = c.args.machine.now in
    subst (λ (event : Option Event). IfOk c.step.result (λ (outcome : Outcome). (state : State) (doomed : Doomed) →
    StandsFor machine state doomed →
    TakesStepUnder event machine c.step.new.self state doomed c.args.pick.core outcome)) (sym c.in-None.is)
    c.step.ensures.ok
