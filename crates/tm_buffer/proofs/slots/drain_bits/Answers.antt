use Rattle.std.proofs.Common.{◌≡◌, ◌<◌, ◌^◌, ◌*◌, ◌+◌, ℕ, arith, length, refl}
use Rattle.std.specs.Int.{bit_at, trailing_zeros, w64}
use Rattle.std.proofs.lemmas.Nat.Bits.{bit_at-trailing_zeros}
use Rattle.tm_buffer.proofs.Bits.{fewer_left, laid_next, still_of}
use Rattle.tm_buffer.proofs.slots.drain_bits.Goals as goal

-- the lowest bit that is left
record Lowest (left k : ℕ) : Type 0 where
  small : k < 64
  bit : bit_at left k ≡ 1

lowest : (left : ℕ) → (let z : ℕ = 0 in left ≡ z → ⊥) → left < 2 ^ 64 → Lowest left (trailing_zeros w64 left)
lowest left some fits = let h = bit_at-trailing_zeros w64 left (omega arith) fits in record { small = h.0; bit = h.1 }

pub bounds-memory-start : goal.bounds-memory-start
bounds-memory-start c =
    let l : Lowest c.loop-left.left (trailing_zeros w64 c.loop-left.left) =
    lowest c.loop-left.left c.loop-left-test.true c.loop-left.invariant.fits in
    omega (
      arith,
      c.requires.below (trailing_zeros w64 c.loop-left.left) l.small
          (c.loop-left.invariant.of_mask (trailing_zeros w64 c.loop-left.left) l.small l.bit),
      c.loop-left.auto.memory,
    )

pub loop-left-smaller : goal.loop-left-smaller
loop-left-smaller c =
    let l : Lowest c.loop-left.left (trailing_zeros w64 c.loop-left.left) =
    lowest c.loop-left.left c.loop-left-test.true c.loop-left.invariant.fits in
    fewer_left c.loop-left.left (trailing_zeros w64 c.loop-left.left) l.small l.bit

pub loop-left-preserved : goal.loop-left-preserved
loop-left-preserved c =
    let k : ℕ = trailing_zeros w64 c.loop-left.left in
    let l : Lowest c.loop-left.left (trailing_zeros w64 c.loop-left.left) =
    lowest c.loop-left.left c.loop-left-test.true c.loop-left.invariant.fits in
    let bit : bit_at c.args.mask (trailing_zeros w64 c.loop-left.left) ≡ 1 =
    c.loop-left.invariant.of_mask (trailing_zeros w64 c.loop-left.left) l.small l.bit in
    let below : c.args.line * 64 + trailing_zeros w64 c.loop-left.left < length c.loop-left.memory =
    omega (arith, c.requires.below (trailing_zeros w64 c.loop-left.left) l.small bit, c.loop-left.auto.memory) in
    record {
      fits = omega (
        arith,
        fewer_left c.loop-left.left (trailing_zeros w64 c.loop-left.left) l.small l.bit,
        c.loop-left.invariant.fits,
      );
      of_mask = still_of c.args.mask c.loop-left.left (trailing_zeros w64 c.loop-left.left) l.small
          c.loop-left.invariant.of_mask;
      laid = laid_next c.args.line c.args.mask c.loop-left.left c.args.bytes.now c.args.memory.now c.loop-left.memory
          (trailing_zeros w64 c.loop-left.left) _ _ l.small bit refl refl below c.loop-left.invariant.laid;
    }
