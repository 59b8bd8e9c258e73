-- A text that is cut at the first of some byte.
use Rattle.std.proofs.Common.{◌≡◌, ℕ, suc, ◌+◌, ◌-◌, ◌<◌, ◌≤◌, Bool, true, false, not, cond, List, [], ◌∷◌, refl, sym}
use Rattle.std.proofs.Common.{◌∙◌, ap, arith, length, take, drop, Some, None, nat_lt, min}
use Rattle.std.proofs.lemmas.Grind.{common_steps}
use Rattle.std.proofs.lemmas.Bool.{ltb-true, ltb-false}
use Rattle.std.proofs.lemmas.List.{take_min}
use Rattle.std.proofs.Math.Nat.{min_comm}
use Rattle.text_out.proofs.Writing.{rest_is}
use Rattle.std.specs.List.{slice_split, onto_first, position, position_or_len, prefix_len}
use Rattle.std.proofs.lemmas.List.Splits.{slice_split_first}

-- a test of an option, by what it is
found : (b : Bool) (n i : ℕ) → cond b (Some n) None ≡ Some i → (b ≡ true) × (n ≡ i)
found true n i h = (refl, cc)
found false n i h = absurd (cc)

missed : (b : Bool) (n : ℕ) → cond b (Some n) None ≡ None → b ≡ false
missed true n h = absurd (cc)
missed false n h = refl

-- the place is within the text
pub cut_within : (p : ℕ → Bool) (xs : List ℕ) (i : ℕ) → Some i ≡ position p xs → i < length xs
cut_within p xs i at =
    let both = found (nat_lt (position_or_len p xs) (length xs)) (position_or_len p xs) i (sym at) in
    let within = ltb-true (position_or_len p xs) (length xs) both.0 in
    let same = both.1 in omega arith

-- at the byte at i
pub cut_at : (p : ℕ → Bool) (xs rest : List ℕ) (i : ℕ) → Some i ≡ position p xs → rest ≡ drop (i + 1) xs →
    slice_split p xs ≡ take i xs ∷ slice_split p rest
cut_at p xs rest i at e =
    let both = found (nat_lt (position_or_len p xs) (length xs)) (position_or_len p xs) i (sym at) in
    slice_split_first p xs 0 (ltb-true (position_or_len p xs) (length xs) both.0)
    ∙ ap (λ n. take n xs ∷ slice_split p (drop (n + 1) xs)) both.1
    ∙ ap (λ ys. take i xs ∷ slice_split p ys) (sym e)

-- nowhere
nowhere : (p : ℕ → Bool) (xs : List ℕ) → length xs ≤ position_or_len p xs → slice_split p xs ≡ xs ∷ []
nowhere p [] h = refl
nowhere p (x ∷ xs) h =
    elim (p x)
    as (λ b. suc (length xs) ≤ cond (not b) (1 + prefix_len (λ y. not (p y)) xs) 0
    → cond b ([] ∷ slice_split p xs) (onto_first x (slice_split p xs)) ≡ (x ∷ xs) ∷ [])
    [ true ↦ λ e. absurd (omega arith) | false ↦ λ e. ap (onto_first x) (nowhere p xs (omega arith)) ] h

pub cut_nowhere : (p : ℕ → Bool) (xs : List ℕ) → None ≡ position p xs → slice_split p xs ≡ xs ∷ []
cut_nowhere p xs h =
    let past = missed (nat_lt (position_or_len p xs) (length xs)) (position_or_len p xs) (sym h) in
    nowhere p xs (ltb-false (position_or_len p xs) (length xs) past)

pub shorter : (xs : List ℕ) (i : ℕ) → i < length xs → length (drop (i + 1) xs) < length xs
shorter xs i h = grind (arith, common_steps)

pub rest_at : (xs : List ℕ) (i : ℕ) → i < length xs → take (length xs - (i + 1)) (drop (i + 1) xs) ≡ drop (i + 1) xs
rest_at xs i h = grind (arith, common_steps)

-- up to n bytes from a place on
pub row_cut : (xs : List ℕ) (from n k : ℕ) → from ≤ length xs
    → k ≡ min (length (take (length xs - from) (drop from xs))) n →
    take k (take (length xs - from) (drop from xs)) ≡ take n (drop from xs)
row_cut xs from n k h e =
    let whole = rest_is xs from h in
    ap (λ ys. take k ys) whole
    ∙ ap (λ m. take m (drop from xs)) (e ∙ ap (λ ys. min (length ys) n) whole ∙ min_comm (length (drop from xs)) n)
    ∙ take_min n (drop from xs)
