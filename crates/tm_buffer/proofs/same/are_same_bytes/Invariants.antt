use Rattle.std.proofs.Common.{◌≡◌, ◌<◌, ◌^◌, ℕ, get_or}
use Rattle.std.specs.Int.{bit_at}
use Rattle.tm_buffer.proofs.same.are_same_bytes.Given as goal

-- the bits left are of the mask, and the bytes of its others are the same
abbrev pub invariant-loop-left : goal.invariant-loop-left
invariant-loop-left l = record {
  fits : l.left < 2 ^ 64;
  of_mask : (k : ℕ) → k < 64 → bit_at l.left k ≡ 1 → bit_at l.mask k ≡ 1;
  same : (k : ℕ) → k < 64 → bit_at l.mask k ≡ 1 → (bit_at l.left k ≡ 1 → ⊥) → get_or l.bytes k 0 ≡ get_or l.other k 0;
}

abbrev pub decreases-loop-left : goal.decreases-loop-left
decreases-loop-left l = l.left
