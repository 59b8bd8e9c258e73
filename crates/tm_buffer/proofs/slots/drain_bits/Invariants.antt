use Rattle.std.proofs.Common.{◌≡◌, ◌<◌, ◌^◌, ℕ, get_or}
use Rattle.std.specs.Int.{bit_at}
use Rattle.tm_buffer.proofs.Bits.{laid_but}
use Rattle.tm_buffer.proofs.slots.drain_bits.Given as goal

abbrev pub invariant-loop-left : goal.invariant-loop-left
invariant-loop-left l = record {
  fits : l.left < 2 ^ 64;
  of_mask : (k : ℕ) → k < 64 → bit_at l.left k ≡ 1 → bit_at l.mask k ≡ 1;
  laid : (q : ℕ) → get_or l.memory q 0 ≡ laid_but l.line l.mask l.left l.bytes l.fn.memory q;
}

abbrev pub decreases-loop-left : goal.decreases-loop-left
decreases-loop-left l = l.left
