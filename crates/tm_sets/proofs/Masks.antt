-- A mask that is made bit by bit.
use Rattle.std.proofs.Common.{◌≡◌, ℕ, ◌+◌, ◌*◌, ◌/◌, ◌%◌, ◌^◌, ◌<◌, Bool, true, false, eqb, sym, ap, ◌∙◌, subst, ⊎_elim}
use Rattle.std.proofs.Common.{arith}
use Rattle.std.proofs.lemmas.Bool.{cases_eq}
use Rattle.std.proofs.lemmas.Nat.{or_lt, one_shl, pow_below, div_below}
use Rattle.std.proofs.lemmas.Nat.Bits.{bit_at_set_same, bit_at_set_other}
use Rattle.std.specs.Int.{w64}
use Rattle.std.specs.Int.RustNames.{bit_or}
use Rattle.tm_sets.specs.Content.{IsMaskOf, bit}

abbrev pub with_bit : ℕ → ℕ → ℕ
with_bit mask k = bit_or mask (1 * 2 ^ k % 2 ^ 64)

bits_set : (mask k : ℕ) (wanted : ℕ → Bool) → k < 64 → ((j : ℕ) → j < k → bit mask j ≡ wanted j) → wanted k ≡ true
    → (j : ℕ) → j < k + 1 → bit (with_bit mask k) j ≡ wanted j
bits_set mask k wanted small h one j below = ⊎_elim
    (λ (e : j ≡ k). ap (bit (with_bit mask k)) e ∙ ap (λ b. eqb b 1) (bit_at_set_same w64 mask k small) ∙ sym one
    ∙ sym (ap wanted e))
    (λ (e : j ≡ k → ⊥). ap (λ b. eqb b 1) (bit_at_set_other w64 mask k small j e) ∙ h j (omega arith))
    (cases_eq j k)

no_bit : (mask k : ℕ) → mask < 2 ^ k → bit mask k ≡ false
no_bit mask k h = ap (λ n. eqb (n % 2) 1) (low mask (2 ^ k) h)
  where
    low : (n p : ℕ) → n < p → n / p ≡ 0
    low n p l = let below : n / p < 1 = div_below n p 1 (omega arith) (omega arith) in omega arith

bits_unset : (mask k : ℕ) (wanted : ℕ → Bool) → mask < 2 ^ k → ((j : ℕ) → j < k → bit mask j ≡ wanted j)
    → wanted k ≡ false → (j : ℕ) → j < k + 1 → bit mask j ≡ wanted j
bits_unset mask k wanted below h no_one j b = ⊎_elim
    (λ (e : j ≡ k). ap (bit mask) e ∙ no_bit mask k below ∙ sym no_one ∙ sym (ap wanted e))
    (λ (e : j ≡ k → ⊥). h j (omega arith))
    (cases_eq j k)

mask_below : (mask k : ℕ) → mask < 2 ^ k → mask < 2 ^ (k + 1)
mask_below mask k h = omega (arith, pow_below k (k + 1) (omega arith))

mask_set_below : (mask k : ℕ) → k < 64 → mask < 2 ^ k → with_bit mask k < 2 ^ (k + 1)
mask_set_below mask k small h =
    or_lt (k + 1) mask (1 * 2 ^ k % 2 ^ 64) (mask_below mask k h)
    (subst (λ n. n < 2 ^ (k + 1)) (sym (one_shl k 64 small)) (pow_below k (k + 1) (omega arith)))

-- a mask of one bit more, set or not
pub mask_more : (mask k : ℕ) (wanted : ℕ → Bool) → k < 64 → IsMaskOf mask k wanted → mask < 2 ^ k → wanted k ≡ true
    → (more : ℕ) → more ≡ with_bit mask k → IsMaskOf more (k + 1) wanted × (more < 2 ^ (k + 1))
mask_more mask k wanted small is below one more same =
    subst (λ m. IsMaskOf m (k + 1) wanted × (m < 2 ^ (k + 1))) (sym same)
    (bits_set mask k wanted small is one, mask_set_below mask k small below)

pub mask_same : (mask k : ℕ) (wanted : ℕ → Bool) → IsMaskOf mask k wanted → mask < 2 ^ k → wanted k ≡ false
    → (same : ℕ) → same ≡ mask → IsMaskOf same (k + 1) wanted × (same < 2 ^ (k + 1))
mask_same mask k wanted is below none same e = subst (λ m. IsMaskOf m (k + 1) wanted × (m < 2 ^ (k + 1))) (sym e)
    (bits_unset mask k wanted below is none, mask_below mask k below)
