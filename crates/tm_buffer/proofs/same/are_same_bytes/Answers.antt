use Rattle.std.proofs.Common.{◌≡◌, ◌<◌, ◌^◌, ℕ, get_or, refl, sym, ap, ◌∙◌, ⊎_elim, arith}
use Rattle.std.proofs.lemmas.Bool.{cases_eq, true≢false}
use Rattle.std.proofs.lemmas.Nat.Bits.{bit_at-trailing_zeros, bit_at-zero, bit_at_clear_other}
use Rattle.std.specs.Int.{bit_at, trailing_zeros, w64}
use Rattle.tm_buffer.proofs.Bits.{fewer_left, still_of}
use Rattle.tm_buffer.proofs.same.are_same_bytes.Goals as goal

zero_one : (let z : ℕ = 0 in z ≡ 1) → ⊥
zero_one e = omega arith

-- the lowest bit that is left
record Lowest (left k : ℕ) : Type 0 where
  small : k < 64
  bit : bit_at left k ≡ 1

lowest : (left : ℕ) → (let z : ℕ = 0 in left ≡ z → ⊥) → left < 2 ^ 64 → Lowest left (trailing_zeros w64 left)
lowest left some fits = let h = bit_at-trailing_zeros w64 left (omega arith) fits in record { small = h.0; bit = h.1 }

pub loop-left-init : goal.loop-left-init
loop-left-init c = record {
  fits = c.ranges.mask.fits;
  of_mask = λ k small bit. bit;
  same = λ k small bit apart. absurd (apart bit);
}

pub loop-left-smaller : goal.loop-left-smaller
loop-left-smaller c =
    let l : Lowest c.loop-left.left (trailing_zeros w64 c.loop-left.left) =
    lowest c.loop-left.left c.loop-left-test.true c.loop-left.invariant.fits in
    fewer_left c.loop-left.left (trailing_zeros w64 c.loop-left.left) l.small l.bit

pub loop-left-preserved : goal.loop-left-preserved
loop-left-preserved c =
    let left : ℕ = c.loop-left.left in
    let l : Lowest c.loop-left.left (trailing_zeros w64 c.loop-left.left) =
    lowest c.loop-left.left c.loop-left-test.true c.loop-left.invariant.fits in
    record {
      fits = omega (
        arith,
        fewer_left c.loop-left.left (trailing_zeros w64 c.loop-left.left) l.small l.bit,
        c.loop-left.invariant.fits,
      );
      of_mask = still_of c.args.mask c.loop-left.left (trailing_zeros w64 c.loop-left.left) l.small
          c.loop-left.invariant.of_mask;
      same = λ k small bit apart. ⊎_elim
          (λ (e : k ≡ trailing_zeros w64 c.loop-left.left). ap (λ i. get_or c.args.bytes.now i 0) e
          ∙ c.if-bytes-offset.false ∙ sym (ap (λ i. get_or c.args.other.now i 0) e))
          (λ (e : k ≡ trailing_zeros w64 c.loop-left.left → ⊥). c.loop-left.invariant.same k small bit
          (λ set. apart
          (bit_at_clear_other w64 c.loop-left.left (trailing_zeros w64 c.loop-left.left) l.small k small e ∙ set)))
          (cases_eq k (trailing_zeros w64 c.loop-left.left));
    }

pub returns-then-bytes-offset : goal.returns-then-bytes-offset
returns-then-bytes-offset c =
    let l : Lowest c.loop-left.left (trailing_zeros w64 c.loop-left.left) =
    lowest c.loop-left.left c.loop-left-test.true c.loop-left.invariant.fits in (
      λ t. absurd (true≢false (sym t)),
      λ same. absurd (c.if-bytes-offset.true (same (trailing_zeros w64 c.loop-left.left) l.small
          (c.loop-left.invariant.of_mask (trailing_zeros w64 c.loop-left.left) l.small l.bit))),
    )

pub returns : goal.returns
returns c = (
  λ _ k small bit. c.loop-left.invariant.same k small bit
      (λ set. zero_one (sym (ap (λ n. bit_at n k) c.loop-left-test.false ∙ bit_at-zero k) ∙ set)),
  λ _. refl,
)
