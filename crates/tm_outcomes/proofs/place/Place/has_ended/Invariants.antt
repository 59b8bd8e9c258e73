use Rattle.std.proofs.Common.{◌≡◌, ℕ, ◌<◌, true}
use Rattle.tm_core.specs.Theorem.{view_at}
use Rattle.tm_outcomes.specs.Places.{has_stopped}
use Rattle.tm_outcomes.proofs.place.Place.has_ended.Given as goal

abbrev pub invariant-loop-core : goal.invariant-loop-core
invariant-loop-core l = (core : ℕ) → core < l.core → has_stopped (view_at l.self.machine core).mode ≡ true
