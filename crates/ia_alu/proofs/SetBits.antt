-- A number with one bit in its place.
use Rattle.std.proofs.Common.{◌≡◌, ◌⊎◌, ℕ, zero, suc, ◌+◌, ◌-◌, ◌*◌, ◌/◌, ◌%◌, ◌^◌, ◌<◌, ◌≤◌, inl, inr, refl, sym, ap}
use Rattle.std.proofs.Common.{◌∙◌, arith, add-mul, div-add-mod'}
use Rattle.std.specs.Prelude.{bit_and, bit_or, bit_xor}
use Rattle.std.specs.Int.{bit_at, w32}
use Rattle.std.proofs.lemmas.Nat.{div-mul-add, mod-mul-add, mod_below, pow_below}
use Rattle.std.proofs.Math.Nat.{mod-eq_of_lt}
use Rattle.std.proofs.lemmas.Nat.Bits.{bit_at-lt, bit_at_lowest, bit_at-suc, bit_at_and, bit_at_or, bit_at_xor}
use Rattle.std.proofs.lemmas.Nat.Bits.{bit_at-pow_same, bit_at-pow_other, bit_at_not, bit_at_cat_low, bit_at_cat_high}
use Rattle.std.proofs.lemmas.Nat.Bits.{bit_at_above, same_from_bits}
use Rattle.ia_word.specs.declared.operation.BitOp.{BitOp}
use Rattle.ia_word.specs.declared.operation.BitOp.TheVariants.{Bt, Bts, Btr, Btc}
use Rattle.ia_alu.specs.Bits.{bit_after, bit_value, with_bit}

some : (n : ℕ) → 0 < 2 ^ n
some zero = omega arith
some (suc n) = omega (arith, some n)

pub small_mask : (n : ℕ) → n < 32 → 2 ^ n < 2 ^ 32
small_mask n h = pow_below n 32 h

pub mask_is : (n : ℕ) → n < 32 → 1 * 2 ^ n % 2 ^ 32 ≡ 2 ^ n
mask_is n h =
    let one : 1 * 2 ^ n ≡ 2 ^ n = omega arith in
    ap (λ m. m % 2 ^ 32) one ∙ mod-eq_of_lt (small_mask n h)

-- the bits above, the bit, and those below
in_parts : (a n : ℕ) → a ≡ (a / 2 ^ n / 2 * 2 + bit_at a n) * 2 ^ n + a % 2 ^ n
in_parts a n = sym (div-add-mod' a (2 ^ n)) ∙ ap (λ q. q * 2 ^ n + a % 2 ^ n) (sym (div-add-mod' (a / 2 ^ n) 2))

with_parts : (a n b : ℕ) → with_bit a n b ≡ (a / 2 ^ n / 2 * 2 + b) * 2 ^ n + a % 2 ^ n
with_parts a n b = added (a / 2 ^ n / 2 * 2) (bit_at a n) (2 ^ n) (a % 2 ^ n) a b (in_parts a n)
  where
    added : (h c p l a b : ℕ) → a ≡ (h + c) * p + l → a - c * p + b * p ≡ (h + b) * p + l
    added h c p l a b e = omega (arith, e, add-mul h c p, add-mul h b p)

low : (a n : ℕ) → a % 2 ^ n < 2 ^ n
low a n = mod_below a (2 ^ n) (some n)

pub same_bit : (a n b : ℕ) → b < 2 → bit_at (with_bit a n b) n ≡ b
same_bit a n b h =
    let here : n - n ≡ 0 = omega arith in
    ap (λ x. bit_at x n) (with_parts a n b)
    ∙ bit_at_cat_high (a / 2 ^ n / 2 * 2 + b) n (a % 2 ^ n) n (low a n) (omega arith)
    ∙ ap (λ k. bit_at (a / 2 ^ n / 2 * 2 + b) k) here
    ∙ bit_at_lowest (a / 2 ^ n / 2 * 2 + b)
    ∙ mod-mul-add (a / 2 ^ n / 2) 2 b h

above : (q b k : ℕ) → b < 2 → 0 < k → bit_at (q * 2 + b) k ≡ bit_at q (k - 1)
above q b zero h some = absurd (omega arith)
above q b (suc k) h some =
    let same : k ≡ suc k - 1 = omega arith in
    bit_at-suc (q * 2 + b) k ∙ ap (λ x. bit_at x k) (div-mul-add q 2 b h) ∙ ap (bit_at q) same

-- whether two places are one
one_place : (i n : ℕ) → (i < n) ⊎ ((i ≡ n) ⊎ (n < i))
one_place zero zero = inr (inl refl)
one_place zero (suc n) = inl (omega arith)
one_place (suc i) zero = inr (inr (omega arith))
one_place (suc i) (suc n) = elim (one_place i n) [
  | inl less ↦ inl (omega arith)
  | inr other ↦ elim other [ inl same ↦ inr (inl (ap suc same)) | inr more ↦ inr (inr (omega arith)) ]
]

pub other_bit : (a n b i : ℕ) → b < 2 → (i ≡ n → ⊥) → bit_at (with_bit a n b) i ≡ bit_at a i
other_bit a n b i h apart = elim (one_place i n) [
  | inl less ↦
      ap (λ x. bit_at x i) (with_parts a n b)
      ∙ bit_at_cat_low (q * 2 + b) n (a % 2 ^ n) i less
      ∙ sym (bit_at_cat_low (q * 2 + bit_at a n) n (a % 2 ^ n) i less)
      ∙ sym (ap (λ x. bit_at x i) (in_parts a n))
  | inr rest ↦ elim rest [
    | inl same ↦ absurd (apart same)
    | inr more ↦
        ap (λ x. bit_at x i) (with_parts a n b)
        ∙ bit_at_cat_high (q * 2 + b) n (a % 2 ^ n) i (low a n) (omega arith)
        ∙ above q b (i - n) h (omega arith)
        ∙ sym (above q (bit_at a n) (i - n) (bit_at-lt a n) (omega arith))
        ∙ sym (bit_at_cat_high (q * 2 + bit_at a n) n (a % 2 ^ n) i (low a n) (omega arith))
        ∙ sym (ap (λ x. bit_at x i) (in_parts a n))
  ]
]
  where
    q : ℕ
    q = a / 2 ^ n / 2

-- a number that has this bit, and the others of another
is_with : (a n b x : ℕ) → b < 2 → bit_at x n ≡ b → ((i : ℕ) → (i ≡ n → ⊥) → bit_at x i ≡ bit_at a i)
    → x ≡ with_bit a n b
is_with a n b x h here others = same_from_bits x (with_bit a n b) (λ i. elim (one_place i n) [
  | inl less ↦ others i (λ e. omega (arith, e)) ∙ sym (other_bit a n b i h (λ e. omega (arith, e)))
  | inr rest ↦ elim rest [
    | inl same ↦ ap (bit_at x) same ∙ here ∙ sym (same_bit a n b h) ∙ ap (bit_at (with_bit a n b)) (sym same)
    | inr more ↦ others i (λ e. omega (arith, e)) ∙ sym (other_bit a n b i h (λ e. omega (arith, e)))
  ]
])

pub kept : (a n : ℕ) → a ≡ bit_value Bt a n
unfolding bit_value
kept a n = in_parts a n ∙ sym (with_parts a n (bit_at a n))

pub set : (a n : ℕ) → bit_or a (2 ^ n) ≡ bit_value Bts a n
unfolding bit_value
set a n = is_with a n 1 (bit_or a (2 ^ n)) (omega arith)
    (omega (arith, bit_at_or a (2 ^ n) n, bit_at-pow_same n, bit_at-lt a n))
    (λ i apart. omega (arith, bit_at_or a (2 ^ n) i, bit_at-pow_other n i apart))

pub turned : (a n : ℕ) → bit_xor a (2 ^ n) ≡ bit_value Btc a n
unfolding bit_value
turned a n = is_with a n (1 - bit_at a n) (bit_xor a (2 ^ n)) (omega arith)
    (omega (arith, bit_at_xor a (2 ^ n) n, bit_at-pow_same n, bit_at-lt a n))
    (λ i apart. omega (arith, bit_at_xor a (2 ^ n) i, bit_at-pow_other n i apart, bit_at-lt a i))

cleared_at : (a n i : ℕ) → a < 2 ^ 32 → 2 ^ n < 2 ^ 32
    → bit_at (bit_and a (2 ^ 32 - 1 - 2 ^ n)) i ≡ bit_at a i - bit_at (2 ^ n) i
cleared_at a n i fits small = elim (one_place i 32) [
  | inl less ↦ omega (
    arith,
    bit_at_and a (2 ^ 32 - 1 - 2 ^ n) i,
    bit_at_not w32 (2 ^ n) i small less,
    bit_at-lt a i,
    bit_at-lt (2 ^ n) i,
  )
  | inr rest ↦
      let from : 32 ≤ i = elim rest [ inl same ↦ omega (arith, same) | inr more ↦ omega arith ] in
      omega (arith, bit_at_and a (2 ^ 32 - 1 - 2 ^ n) i, bit_at_above a 32 i fits from)
]

pub cleared : (a n : ℕ) → a < 2 ^ 32 → 2 ^ n < 2 ^ 32 → bit_and a (2 ^ 32 - 1 - 2 ^ n) ≡ bit_value Btr a n
unfolding bit_value
cleared a n fits small = is_with a n 0 (bit_and a (2 ^ 32 - 1 - 2 ^ n)) (omega arith)
    (omega (arith, cleared_at a n n fits small, bit_at-pow_same n, bit_at-lt a n))
    (λ i apart. omega (arith, cleared_at a n i fits small, bit_at-pow_other n i apart))

after_fits : (op : BitOp) (b : ℕ) → b < 2 → bit_after op b < 2
after_fits Bt b h = h
after_fits Bts b h = omega arith
after_fits Btr b h = omega arith
after_fits Btc b h = omega arith

pub chosen_is : (op : BitOp) (a n : ℕ) → bit_at (bit_value op a n) n ≡ bit_after op (bit_at a n)
unfolding bit_value
chosen_is op a n = same_bit a n (bit_after op (bit_at a n)) (after_fits op (bit_at a n) (bit_at-lt a n))

pub others_are : (op : BitOp) (a n k : ℕ) → (k ≡ n → ⊥) → bit_at (bit_value op a n) k ≡ bit_at a k
unfolding bit_value
others_are op a n k apart =
    other_bit a n (bit_after op (bit_at a n)) k (after_fits op (bit_at a n) (bit_at-lt a n)) apart
