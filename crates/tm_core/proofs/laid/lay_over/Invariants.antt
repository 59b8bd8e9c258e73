use Rattle.std.proofs.Common.{◌≡◌, length, reverse, take}
use Rattle.std.specs.Prelude.{All, vec_capacity}
use Rattle.tm_model.specs.State.{seen_memory}
use Rattle.tm_core.specs.StoreBuffers.{IsStorable}
use Rattle.tm_core.proofs.laid.lay_over.Given as goal

-- the stores so far are laid over memory, and what is kept takes them off
abbrev pub invariant-loop-store : goal.invariant-loop-store
invariant-loop-store l = record {
  seen : l.memory ≡ seen_memory l.initial.memory (take l.store-index l.stores);
  back : seen_memory l.memory (reverse l.under.items) ≡ l.initial.memory;
  storable : All (IsStorable (length l.initial.memory)) l.under.items;
  count : length l.under.items ≡ l.store-index;
  capacity : vec_capacity l.under ≡ vec_capacity l.initial.under;
}
