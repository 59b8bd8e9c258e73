use Rattle.std.proofs.Common.{◌≡◌, get_or, take}
use Rattle.tm_model.specs.State.{seen_memory}
use Rattle.tm_core.proofs.seen_memory.byte_under.Given as goal

-- the byte behind the stores so far
abbrev pub invariant-loop-store : goal.invariant-loop-store
invariant-loop-store l = l.byte ≡ get_or (seen_memory l.memory (take l.store-index l.stores)) l.address 0
