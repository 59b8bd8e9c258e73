use Rattle.std.proofs.Common.{◌≡◌, ℕ, ◌<◌}
use Rattle.tm_core.specs.Theorem.{pending_at, view_at}
use Rattle.tm_outcomes.proofs.place.Place.is_alike.Given as goal

abbrev pub invariant-loop-core : goal.invariant-loop-core
invariant-loop-core l = record {
  each : (core : ℕ) → core < l.core → view_at l.self.machine core ≡ view_at l.other.machine core;
  pending : (core : ℕ) → core < l.core → pending_at l.self.machine core ≡ pending_at l.other.machine core;
}
