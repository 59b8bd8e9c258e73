use Rattle.std.proofs.Common.{◌≡◌, ◌<◌, ℕ, get_or, length}
use Rattle.std.specs.Prelude.{All}
use Rattle.tm_pick.proofs.going.Going.all.Given as goal

abbrev pub invariant-loop-core : goal.invariant-loop-core
invariant-loop-core l = record {
  count : length l.cores.items ≡ l.core;
  below : All (λ core. core < l.count) l.cores.items;
  each : (k d : ℕ) → k < l.core → get_or l.cores.items k d ≡ k;
}
