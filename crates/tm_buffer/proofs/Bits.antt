-- A mask whose bits are written one by one, and one that gets four bits at once.
use Rattle.std.proofs.Common.{◌≡◌, ℕ, ◌+◌, ◌-◌, ◌*◌, ◌/◌, ◌%◌, ◌^◌, ◌<◌, ◌≤◌, Bool, true, false, cond, eqb, ◌&&◌, List}
use Rattle.std.proofs.Common.{length, get_or, set, refl, sym, ap, ◌∙◌, ⊎_elim, arith, max}
use Rattle.std.specs.Prelude.{not}
use Rattle.std.proofs.lemmas.Bool.{cases_eq, cases_lt, eq-eqb, ne_eqb}
use Rattle.std.proofs.lemmas.List.{get_or-set_same, get_or-set_other}
use Rattle.std.proofs.lemmas.Nat.{and_le_l, one_shl, and_mask, shr-shr, shl_whole, pow-add}
use Rattle.std.proofs.lemmas.Nat.Bits.{bit_at_clear_same, bit_at_clear_other, bit_at-zero, bit_at_or, bit_at-pow_same}
use Rattle.std.proofs.lemmas.Nat.Bits.{bit_at-pow_other, bit_at_mask_inside, bit_at_mask_below, bit_at_mask_above}
use Rattle.std.proofs.lemmas.Nat.Bits.{same_from_bits}
use Rattle.std.specs.Int.{bit_at, bit_not, w64}
use Rattle.std.specs.Int.RustNames.{bit_or, bit_and}
use Rattle.tm_buffer.proofs.Kept.{marked}

-- ---- bits that are still to be written

abbrev pub cleared : ℕ → ℕ → ℕ
cleared mask k = bit_and mask (bit_not w64 (1 * 2 ^ k % 2 ^ 64))

-- a byte of memory, where the bytes of a mask were written but for those of the bits left
abbrev pub laid_but : ℕ → ℕ → ℕ → List ℕ → List ℕ → ℕ → ℕ
laid_but line mask left bytes old q =
    cond (eqb (q / 64) line && (eqb (bit_at mask (q % 64)) 1 && not (eqb (bit_at left (q % 64)) 1)))
    (get_or bytes (q % 64) 0) (get_or old q 0)

none_laid : (a b : Bool) → (a && (b && not b)) ≡ false
none_laid true true = refl
none_laid true false = refl
none_laid false b = refl

pub laid_none : (line mask : ℕ) (bytes old : List ℕ) (q : ℕ) → get_or old q 0 ≡ laid_but line mask mask bytes old q
laid_none line mask bytes old q = sym (ap (λ t. cond t (get_or bytes (q % 64) 0) (get_or old q 0))
    (none_laid (eqb (q / 64) line) (eqb (bit_at mask (q % 64)) 1)))

pub laid_all : (line mask left : ℕ) (bytes old : List ℕ) (q : ℕ) → left ≡ 0
    → laid_but line mask left bytes old q
    ≡ cond (eqb (q / 64) line && eqb (bit_at mask (q % 64)) 1) (get_or bytes (q % 64) 0) (get_or old q 0)
laid_all line mask left bytes old q none =
    ap (λ n. laid_but line mask n bytes old q) none
    ∙ ap (λ n. cond (eqb (q / 64) line && (eqb (bit_at mask (q % 64)) 1 && not (eqb n 1))) (get_or bytes (q % 64) 0)
    (get_or old q 0)) (bit_at-zero (q % 64))
    ∙ ap (λ t. cond (eqb (q / 64) line && t) (get_or bytes (q % 64) 0) (get_or old q 0))
    (and_true (eqb (bit_at mask (q % 64)) 1))
  where
    and_true : (b : Bool) → (b && true) ≡ b
    and_true true = refl
    and_true false = refl

pub laid_next : (line mask left : ℕ) (bytes old m : List ℕ) (k a v : ℕ) → k < 64 → bit_at mask k ≡ 1 → a ≡ line * 64 + k
    → v ≡ get_or bytes k 0 → a < length m
    → ((q : ℕ) → get_or m q 0 ≡ laid_but line mask left bytes old q)
    → (q : ℕ) → get_or (set m a v) q 0 ≡ laid_but line mask (cleared left k) bytes old q
laid_next line mask left bytes old m k a v small bit is value below h q = ⊎_elim
    (λ (e : q ≡ a).
    let at_line : q / 64 ≡ line = omega arith in
    let at_offset : q % 64 ≡ k = omega arith in
    ap (λ j. get_or (set m a v) j 0) e ∙ get_or-set_same m a v 0 below ∙ value ∙ sym (
    ap (λ t. cond (t && (eqb (bit_at mask (q % 64)) 1 && not (eqb (bit_at (cleared left k) (q % 64)) 1)))
    (get_or bytes (q % 64) 0) (get_or old q 0)) (eq-eqb (q / 64) line at_line)
    ∙ ap
    (λ j. cond (eqb (bit_at mask j) 1 && not (eqb (bit_at (cleared left k) j) 1)) (get_or bytes j 0) (get_or old q 0))
    at_offset
    ∙ ap (λ n. cond (eqb n 1 && not (eqb (bit_at (cleared left k) k) 1)) (get_or bytes k 0) (get_or old q 0)) bit
    ∙ ap (λ n. cond (not (eqb n 1)) (get_or bytes k 0) (get_or old q 0)) (bit_at_clear_same w64 left k small)))
    (λ (e : q ≡ a → ⊥). get_or-set_other m a q v 0 e ∙ h q ∙ ⊎_elim
    (λ (here : q / 64 ≡ line).
    let apart : q % 64 ≡ k → ⊥ = λ (o : q % 64 ≡ k). e (omega arith) in
    ap (λ n. cond (eqb (q / 64) line && (eqb (bit_at mask (q % 64)) 1 && not (eqb n 1))) (get_or bytes (q % 64) 0)
    (get_or old q 0)) (sym (bit_at_clear_other w64 left k small (q % 64) (omega arith) apart)))
    (λ (other : q / 64 ≡ line → ⊥).
    ap (λ t. cond (t && (eqb (bit_at mask (q % 64)) 1 && not (eqb (bit_at left (q % 64)) 1))) (get_or bytes (q % 64) 0)
    (get_or old q 0)) (ne_eqb (q / 64) line other)
    ∙ sym (ap (λ t. cond (t && (eqb (bit_at mask (q % 64)) 1 && not (eqb (bit_at (cleared left k) (q % 64)) 1)))
    (get_or bytes (q % 64) 0) (get_or old q 0)) (ne_eqb (q / 64) line other)))
    (cases_eq (q / 64) line))
    (cases_eq q a)

-- the bits that are left are of those that were
pub still_of : (mask left k : ℕ) → k < 64 → ((i : ℕ) → i < 64 → bit_at left i ≡ 1 → bit_at mask i ≡ 1)
    → (i : ℕ) → i < 64 → bit_at (cleared left k) i ≡ 1 → bit_at mask i ≡ 1
still_of mask left k small of i below bit = ⊎_elim
    (λ (e : i ≡ k).
    absurd (zero_one (sym (bit_at_clear_same w64 left k small) ∙ ap (bit_at (cleared left k)) (sym e) ∙ bit)))
    (λ (e : i ≡ k → ⊥). of i below (sym (bit_at_clear_other w64 left k small i below e) ∙ bit))
    (cases_eq i k)
  where
    zero_one : (let z : ℕ = 0 in z ≡ 1) → ⊥
    zero_one e = omega arith

pub fewer_left : (left k : ℕ) → k < 64 → bit_at left k ≡ 1 → cleared left k < left
fewer_left left k small bit =
    let le : cleared left k ≤ left = and_le_l left (bit_not w64 (1 * 2 ^ k % 2 ^ 64)) in
    let apart : cleared left k ≡ left → ⊥ =
    λ (e : cleared left k ≡ left). zero_one (sym (bit_at_clear_same w64 left k small) ∙ ap (λ n. bit_at n k) e ∙ bit) in
    below (cleared left k) left le apart
  where
    zero_one : (let z : ℕ = 0 in z ≡ 1) → ⊥
    zero_one e = omega arith

    below : (a b : ℕ) → a ≤ b → (a ≡ b → ⊥) → a < b
    below a b le apart = ⊎_elim (λ (l : a < b). l) (λ (g : b ≤ a). absurd (apart (omega arith))) (cases_lt a b)

-- ---- four bits at once

-- the bit of a number with one bit
abbrev bit_of : ℕ → ℕ → ℕ
bit_of i n = cond (eqb i n) 1 0

-- four bits that are all set, from an offset on
pub four_set : (mask offset : ℕ) → bit_and (mask / 2 ^ offset) 15 ≡ 15 → (k : ℕ) → k < 4 → bit_at mask (offset + k) ≡ 1
four_set mask offset all k small =
    let n : ℕ = mask / 2 ^ offset in
    let low : mask / 2 ^ offset % 16 ≡ 15 = sym (and_mask (mask / 2 ^ offset) 4) ∙ all in
    sym (ap (λ x. x % 2) (shr-shr mask offset k)) ∙ each (mask / 2 ^ offset) low k small
  where
    each : (n : ℕ) → n % 16 ≡ 15 → (j : ℕ) → j < 4 → n / 2 ^ j % 2 ≡ 1
    each n low j b = ⊎_elim
        (λ (e : j ≡ 0). ap (λ i. n / 2 ^ i % 2) e ∙ omega arith)
        (λ e0. ⊎_elim
        (λ (e : j ≡ 1). ap (λ i. n / 2 ^ i % 2) e ∙ omega arith)
        (λ e1. ⊎_elim
        (λ (e : j ≡ 2). ap (λ i. n / 2 ^ i % 2) e ∙ omega arith)
        (λ e2. let e : j ≡ 3 = omega arith in ap (λ i. n / 2 ^ i % 2) e ∙ omega arith)
        (cases_eq j 2))
        (cases_eq j 1))
        (cases_eq j 0)

at_own : (i n : ℕ) → i ≡ n → bit_of i n ≡ 1
at_own i n e = ap (λ t. cond {A = ℕ} t 1 0) (eq-eqb i n e)

at_other : (i n : ℕ) → (i ≡ n → ⊥) → bit_of i n ≡ 0
at_other i n e = ap (λ t. cond {A = ℕ} t 1 0) (ne_eqb i n e)

bit_of_one : (k i : ℕ) → k < 64 → bit_at (1 * 2 ^ k % 2 ^ 64) i ≡ bit_of i k
bit_of_one k i small = ap (λ n. bit_at n i) (one_shl k 64 small) ∙ ⊎_elim
    (λ (e : i ≡ k). ap (bit_at (2 ^ k)) e ∙ bit_at-pow_same k ∙ sym (at_own i k e))
    (λ (e : i ≡ k → ⊥). bit_at-pow_other k i e ∙ sym (at_other i k e))
    (cases_eq i k)

bit_marked : (mask k i : ℕ) → k < 64 → bit_at (marked mask k) i ≡ max (bit_at mask i) (bit_of i k)
bit_marked mask k i small = bit_at_or mask (1 * 2 ^ k % 2 ^ 64) i ∙ ap (max (bit_at mask i)) (bit_of_one k i small)

-- 15 at an offset is the four bits from there on
fifteen : (o : ℕ) → o ≤ 60 → 15 * 2 ^ o % 2 ^ 64 ≡ 2 ^ (o + 4) - 2 ^ o
fifteen o small =
    let whole : (15 * 2 ^ o) % 2 ^ 64 ≡ 15 * 2 ^ o = shl_whole 15 4 o 64 (omega arith) (omega arith) in
    let more : 2 ^ (o + 4) ≡ 2 ^ o * 2 ^ 4 = pow-add 2 o 4 in
    whole ∙ omega (arith, more)

pub marked_four : (mask o : ℕ) → o ≤ 60
    → bit_or mask (15 * 2 ^ o % 2 ^ 64) ≡ marked (marked (marked (marked mask (o + 3)) (o + 2)) (o + 1)) o
marked_four mask o small = same_from_bits _ _ (λ i.
    bit_at_or mask (15 * 2 ^ o % 2 ^ 64) i ∙ ap (λ n. max (bit_at mask i) (bit_at n i)) (fifteen o small)
    ∙ each i ∙ sym (
    bit_marked (marked (marked (marked mask (o + 3)) (o + 2)) (o + 1)) o i (omega arith)
    ∙ ap (λ n. max n (bit_of i o)) (bit_marked (marked (marked mask (o + 3)) (o + 2)) (o + 1) i (omega arith)
    ∙ ap (λ n. max n (bit_of i (o + 1))) (bit_marked (marked mask (o + 3)) (o + 2) i (omega arith)
    ∙ ap (λ n. max n (bit_of i (o + 2))) (bit_marked mask (o + 3) i (omega arith))))))
  where
    joined : (b f c3 c2 c1 c0 : ℕ) → f ≡ max (max (max c3 c2) c1) c0 → max b f ≡ max (max (max (max b c3) c2) c1) c0
    joined b f c3 c2 c1 c0 e = omega arith

    four : (i : ℕ)
        → bit_at (2 ^ (o + 4) - 2 ^ o) i
        ≡ max (max (max (bit_of i (o + 3)) (bit_of i (o + 2))) (bit_of i (o + 1))) (bit_of i o)
    four i = ⊎_elim
        (λ (l : i < o). omega (
          arith,
          bit_at_mask_below o (o + 4) i l,
          at_other i o (λ e. omega arith),
          at_other i (o + 1) (λ e. omega arith),
          at_other i (o + 2) (λ e. omega arith),
          at_other i (o + 3) (λ e. omega arith),
        ))
        (λ (g : o ≤ i). ⊎_elim
        (λ (l : i < o + 4).
        let set : bit_at (2 ^ (o + 4) - 2 ^ o) i ≡ 1 = bit_at_mask_inside o (o + 4) i g l in
        set ∙ ⊎_elim
        (λ (e : i ≡ o). omega (
          arith,
          at_own i o e,
          at_other i (o + 1) (λ x. omega arith),
          at_other i (o + 2) (λ x. omega arith),
          at_other i (o + 3) (λ x. omega arith),
        ))
        (λ (n0 : i ≡ o → ⊥). ⊎_elim
        (λ (e : i ≡ o + 1). omega (
          arith,
          at_other i o n0,
          at_own i (o + 1) e,
          at_other i (o + 2) (λ x. omega arith),
          at_other i (o + 3) (λ x. omega arith),
        ))
        (λ (n1 : i ≡ o + 1 → ⊥). ⊎_elim
        (λ (e : i ≡ o + 2). omega
        (arith, at_other i o n0, at_other i (o + 1) n1, at_own i (o + 2) e, at_other i (o + 3) (λ x. omega arith)))
        (λ (n2 : i ≡ o + 2 → ⊥).
        omega (arith, at_other i o n0, at_other i (o + 1) n1, at_other i (o + 2) n2, at_own i (o + 3) (omega arith)))
        (cases_eq i (o + 2)))
        (cases_eq i (o + 1)))
        (cases_eq i o))
        (λ (a : o + 4 ≤ i). omega (
          arith,
          bit_at_mask_above o (o + 4) i a,
          at_other i o (λ e. omega arith),
          at_other i (o + 1) (λ e. omega arith),
          at_other i (o + 2) (λ e. omega arith),
          at_other i (o + 3) (λ e. omega arith),
        ))
        (cases_lt i (o + 4)))
        (cases_lt i o)

    each : (i : ℕ)
        → max (bit_at mask i) (bit_at (2 ^ (o + 4) - 2 ^ o) i)
        ≡ max (max (max (max (bit_at mask i) (bit_of i (o + 3))) (bit_of i (o + 2))) (bit_of i (o + 1))) (bit_of i o)
    each i = joined (bit_at mask i) (bit_at (2 ^ (o + 4) - 2 ^ o) i) (bit_of i (o + 3)) (bit_of i (o + 2))
        (bit_of i (o + 1)) (bit_of i o) (four i)
