use Rattle.std.proofs.Common.{◌≡◌, ◌<◌, ◌≤◌, ℕ, Option, Some, [], length, refl, subst, arith}
use Rattle.std.proofs.lemmas.Bool.{false≢true}
use Rattle.std.specs.Prelude.{Err, IfOk, IsOk, Ok, Result, ◌↔◌}
use Rattle.tm_model.specs.declared.outcome.Event.TheVariants as event
use Rattle.tm_model.specs.State.{State}
use Rattle.tm_core.specs.declared.fault.NoSuchCore.{NoSuchCore}
use Rattle.tm_core.specs.Theorem.{ShownMachine, StandsFor, TakesStep, TakesStepUnder, pending_at}
use Rattle.tm_core.specs.Types.{Drained, Outcome}
use Rattle.tm_core.proofs.MachineLemmas.{run_more, takes_drain}
use Rattle.tm_core.proofs.machine.Machine.drain.Goals as goal

-- where nothing is pending of the core
as_step : (old new : ShownMachine) (core : ℕ) (r : Result Outcome NoSuchCore) → pending_at old core ≡ []
    → (IsOk r ↔ (core < length old.views)) →
    IfOk r (λ outcome. (a : State) (d : ℕ → Option ℕ) → StandsFor old a d → TakesStep old new a d core outcome) →
    IfOk r
    (λ outcome. (a : State) (d : ℕ → Option ℕ) → StandsFor old a d
    → TakesStepUnder (Some event.Drain) old new a d core outcome)
as_step old new core (Ok outcome) none exists takes =
    λ a d stands. takes_drain old new a d core outcome (exists.0 refl) none stands (takes a d stands)
as_step old new core (Err fault) none exists takes = tt

pub returns-then-core-cores-clause-exists : goal.returns-then-core-cores-clause-exists
returns-then-core-cores-clause-exists g c =
    let past : length c.args.self.now.views ≤ c.args.core =
    subst (λ n. n ≤ c.args.core) c.cores.ensures.count c.if-core-cores.true in
    (λ h. absurd (false≢true h), λ h. absurd (omega arith))

pub drain_pending-requires : goal.drain_pending-requires
drain_pending-requires g c = record {
  exists = subst (λ n. c.args.core < n) c.cores.ensures.count c.if-core-cores.false;
  some = c.has_pending.ensures.some c.if-has_pending.true;
}

pub returns-then-has_pending-clause-exists : goal.returns-then-has_pending-clause-exists
returns-then-has_pending-clause-exists g c =
    (λ _. subst (λ n. c.args.core < n) c.cores.ensures.count c.if-core-cores.false, λ _. refl)

pub returns-then-has_pending-clause-run : goal.returns-then-has_pending-clause-run
returns-then-has_pending-clause-run g c start a d steps =
    run_more (Some event.Drain) c.args.self.now c.drain_pending.new.self c.args.core Drained
    c.drain_pending.ensures.same c.drain_pending.ensures.ok start a d steps

pub returns-clause-ok : goal.returns-clause-ok
returns-clause-ok g c =
    as_step c.args.self.now c.step.new.self c.args.core c.step.result (c.has_pending.ensures.none
    c.if-has_pending.false)
    c.step.ensures.exists c.step.ensures.ok
