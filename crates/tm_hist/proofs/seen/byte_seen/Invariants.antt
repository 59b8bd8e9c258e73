use Rattle.std.proofs.Common.{◌≡◌, take}
use Rattle.std.specs.Prelude.{slice_index}
use Rattle.tm_model.specs.State.{seen_memory}
use Rattle.tm_hist.proofs.seen.byte_seen.Given as goal

-- the byte after the stores so far
abbrev pub invariant-loop-store : goal.invariant-loop-store
invariant-loop-store l = l.byte ≡ slice_index (seen_memory l.memory (take l.store-index l.pending)) l.at
