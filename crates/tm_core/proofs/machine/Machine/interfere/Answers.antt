use Rattle.std.proofs.Common.{◌≡◌, ◌<◌, ℕ, false, length, Option, Some, refl, subst}
use Rattle.std.specs.Prelude.{IfNone, IfOk, Ok, Err, Result}
use Rattle.tm_model.specs.declared.outcome.Event.TheVariants as event
use Rattle.tm_model.specs.State.{State}
use Rattle.tm_core.specs.declared.fault.NoSuchCore.{NoSuchCore}
use Rattle.tm_core.specs.Representation.{is_open}
use Rattle.tm_core.specs.Theorem.{ShownMachine, StandsFor, TakesStep, TakesStepUnder, view_at}
use Rattle.tm_core.specs.Types.{Interference, Outcome}
use Rattle.tm_core.proofs.MachineLemmas.{run_more, takes_under}
use Rattle.tm_core.proofs.machine.Machine.interfere.Goals as goal

-- where the event befalls nothing
as_without : (by : Interference) (old new : ShownMachine) (core : ℕ) (r : Result Outcome NoSuchCore)
    → core < length old.views → is_open (view_at old core).mode ≡ false →
    IfOk r (λ outcome. (a : State) (d : ℕ → Option ℕ) → StandsFor old a d → TakesStep old new a d core outcome) →
    IfOk r
    (λ outcome. (a : State) (d : ℕ → Option ℕ) → StandsFor old a d
    → TakesStepUnder (Some (event.Abort by)) old new a d core outcome)
as_without by old new core (Ok outcome) below closed takes =
    λ a d stands. takes_under by old new a d core outcome below closed stands (takes a d stands)
as_without by old new core (Err fault) below closed takes = tt

pub returns-in-Some-clause-ok : goal.returns-in-Some-clause-ok
returns-in-Some-clause-ok g c = c.abort_under.ensures.ok

pub returns-in-None-clause-ok : goal.returns-in-None-clause-ok
returns-in-None-clause-ok g c =
    as_without c.args.by c.args.self.now c.step.new.self c.args.core c.step.result (c.in_ok-depth.ensures.exists.0 refl)
    (subst (λ (found : Option ℕ). IfNone found (is_open (view_at c.args.self.now c.args.core).mode ≡ false))
    c.in-None.is c.in_ok-depth.ensures.none) c.step.ensures.ok

pub returns-in-Some-clause-run : goal.returns-in-Some-clause-run
returns-in-Some-clause-run g c start a d steps =
    run_more (Some (event.Abort c.args.by)) c.args.self.now c.abort_under.new.self c.args.core c.abort_under.result
    c.abort_under.ensures.same c.abort_under.ensures.ok start a d steps
