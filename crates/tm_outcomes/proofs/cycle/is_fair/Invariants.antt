use Rattle.std.proofs.Common.{◌≡◌, ℕ, ◌<◌, false}
use Rattle.tm_core.specs.Theorem.{view_at}
use Rattle.tm_outcomes.specs.Places.{has_stopped}
use Rattle.tm_outcomes.specs.Verdicts.{HasStepOf}
use Rattle.tm_outcomes.proofs.cycle.is_fair.Given as goal

-- each of the cores so far that has not stopped makes a step
abbrev pub invariant-loop-core : goal.invariant-loop-core
invariant-loop-core l =
    (core : ℕ) → core < l.core → has_stopped (view_at l.place.machine core).mode ≡ false → HasStepOf core l.steps
