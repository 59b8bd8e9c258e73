use Rattle.std.proofs.Common.{◌≡◌, ℕ, None, Option, Some, subst, sym}
use Rattle.std.specs.Prelude.{IfOk, Result}
use Rattle.tm_model.specs.State.{State}
use Rattle.tm_core.specs.declared.fault.NoSuchCore.{NoSuchCore}
use Rattle.tm_core.specs.Theorem.{ShownMachine, StandsFor, TakesStepUnder}
use Rattle.tm_core.specs.Types.{Event, Outcome}
use Rattle.tm_core.proofs.machine.Machine.take.Goals as goal

-- the same by another name of the event
named : (old new : ShownMachine) (core : ℕ) (r : Result Outcome NoSuchCore) (one other : Option Event) → one ≡ other →
    IfOk r
    (λ outcome. (a : State) (d : ℕ → Option ℕ) → StandsFor old a d → TakesStepUnder one old new a d core outcome) →
    IfOk r
    (λ outcome. (a : State) (d : ℕ → Option ℕ) → StandsFor old a d → TakesStepUnder other old new a d core outcome)
named old new core r one other same takes =
    subst (λ e. IfOk r (λ outcome. (a : State) (d : ℕ → Option ℕ) → StandsFor old a d
    → TakesStepUnder e old new a d core outcome)) same takes

pub returns-in-None-clause-ok : goal.returns-in-None-clause-ok
returns-in-None-clause-ok g c =
    named c.args.self.now c.step.new.self c.args.pick.core c.step.result None c.args.pick.event (sym c.in-None.is)
    c.step.ensures.ok

pub returns-in-Some-clause-ok : goal.returns-in-Some-clause-ok
returns-in-Some-clause-ok g c =
    named c.args.self.now c.step_under.new.self c.args.pick.core c.step_under.result (Some c.in-Some.event)
    c.args.pick.event (sym c.in-Some.is) c.step_under.ensures.ok
