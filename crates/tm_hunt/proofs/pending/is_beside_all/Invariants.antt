use Rattle.std.proofs.Common.{◌<◌, ℕ, get_or}
use Rattle.tm_model.specs.Types.{Store}
use Rattle.tm_hunt.specs.Delays.{IsBeside}
use Rattle.tm_hunt.proofs.pending.is_beside_all.Given as goal

-- none so far writes it
abbrev pub invariant-loop-store : goal.invariant-loop-store
invariant-loop-store l = (k : ℕ) (other : Store) → k < l.store-index → IsBeside l.address (get_or l.stores k other)
