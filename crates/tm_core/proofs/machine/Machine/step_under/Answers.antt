use Rattle.std.proofs.Common.{◌≡◌, ℕ, Option, Some, arith, subst}
use Rattle.std.specs.Prelude.{IfOk, Result}
use Rattle.tm_model.specs.State.{State}
use Rattle.tm_core.specs.declared.fault.NoSuchCore.{NoSuchCore}
use Rattle.tm_core.specs.Theorem.{ShownMachine, StandsFor, TakesStepUnder}
use Rattle.tm_core.specs.Types.{Event, Outcome}
use Rattle.tm_core.proofs.machine.Machine.step_under.Goals as goal

-- the same by another name of the event
named : (old new : ShownMachine) (core : ℕ) (r : Result Outcome NoSuchCore) (one other : Event) → one ≡ other →
    IfOk r
    (λ outcome. (a : State) (d : ℕ → Option ℕ) → StandsFor old a d → TakesStepUnder (Some one) old new a d core outcome)
    →
    IfOk r
    (λ outcome. (a : State) (d : ℕ → Option ℕ) → StandsFor old a d
    → TakesStepUnder (Some other) old new a d core outcome)
named old new core r one other same takes =
    subst (λ e. IfOk r (λ outcome. (a : State) (d : ℕ → Option ℕ) → StandsFor old a d
    → TakesStepUnder (Some e) old new a d core outcome)) same takes

pub returns-in-Drain-clause-ok : goal.returns-in-Drain-clause-ok
returns-in-Drain-clause-ok g c = named c.args.self.now c.drain.new.self c.args.core c.drain.result _ c.args.event
    (grind arith) c.drain.ensures.ok

pub returns-in-Abort-clause-ok : goal.returns-in-Abort-clause-ok
returns-in-Abort-clause-ok g c = named c.args.self.now c.interfere.new.self c.args.core c.interfere.result _
    c.args.event (grind arith) c.interfere.ensures.ok
