-- The first part of a name.
use Rattle.std.proofs.Common.{◌≡◌, ℕ, zero, suc, ◌+◌, ◌<◌, ◌≤◌, true, false, List, [], ◌∷◌, refl, take, drop, length}
use Rattle.std.proofs.Common.{get_or, arith, inl, inr}
use Rattle.std.specs.Prelude.{◌==◌}
use Rattle.std.proofs.lemmas.Bool.{cases_Bool}
use Rattle.std.proofs.lemmas.List.{at_drop_more, at_drop_all}
use Rattle.std.specs.List.{prefix_len}
use Rattle.ia_names.specs.Tries.{has_dot, is_letter, is_part, may_follow}

pub letter_step : (xs : List ℕ) (i x : ℕ) → i < length xs → is_letter (get_or xs i x) ≡ true
    → prefix_len is_letter (drop i xs) ≡ 1 + prefix_len is_letter (drop (i + 1) xs)
letter_step xs i x h e =
    let more : prefix_len is_letter (drop i xs) ≡ prefix_len is_letter (get_or xs i x ∷ drop (i + 1) xs) =
    at_drop_more (prefix_len is_letter) xs i x h in
    rw more (rw e refl)

pub letter_stop : (xs : List ℕ) (i x : ℕ) → i < length xs → is_letter (get_or xs i x) ≡ false
    → prefix_len is_letter (drop i xs) ≡ 0
letter_stop xs i x h e =
    let more : prefix_len is_letter (drop i xs) ≡ prefix_len is_letter (get_or xs i x ∷ drop (i + 1) xs) =
    at_drop_more (prefix_len is_letter) xs i x h in
    rw more (rw e refl)

pub letter_end : (xs : List ℕ) (i : ℕ) → length xs ≤ i → prefix_len is_letter (drop i xs) ≡ 0
letter_end xs i h = at_drop_all (prefix_len is_letter) xs i h

-- no dot stands in front of the first one
plain : (n : ℕ) (xs : List ℕ) → n ≡ prefix_len is_letter xs → has_dot (take n xs) ≡ false
plain zero [] e = refl
plain zero (x ∷ xs) e = refl
plain (suc n) [] e = absurd (omega (arith, e))
plain (suc n) (x ∷ xs) e = elim (cases_Bool (x == 46)) [
  | inl t ↦ let k : prefix_len is_letter (x ∷ xs) ≡ 0 = rw t refl in absurd (omega (arith, k, e))
  | inr f ↦
      let k : prefix_len is_letter (x ∷ xs) ≡ 1 + prefix_len is_letter xs = rw f refl in
      rw f (plain n xs (omega (arith, k, e)))
]

-- a dot stands there, or nothing
dot_next : (n : ℕ) (xs front : List ℕ) → n ≡ prefix_len is_letter xs → may_follow front (drop n xs) ≡ true
dot_next zero [] front e = refl
dot_next (suc n) [] front e = refl
dot_next zero (x ∷ xs) front e = elim (cases_Bool (x == 46)) [
  | inl t ↦ rw t refl
  | inr f ↦
      let k : prefix_len is_letter (x ∷ xs) ≡ 1 + prefix_len is_letter xs = rw f refl in absurd (omega (arith, k, e))
]
dot_next (suc n) (x ∷ xs) front e = elim (cases_Bool (x == 46)) [
  | inl t ↦ let k : prefix_len is_letter (x ∷ xs) ≡ 0 = rw t refl in absurd (omega (arith, k, e))
  | inr f ↦
      let k : prefix_len is_letter (x ∷ xs) ≡ 1 + prefix_len is_letter xs = rw f refl in
      dot_next n xs front (omega (arith, k, e))
]

-- the first part of what follows a name is a part
pub first_part : (front name : List ℕ) (n : ℕ) → may_follow front name ≡ true → 0 < length name
    → n ≡ 1 + prefix_len is_letter (drop 1 name) → is_part front (take n name) ≡ true
first_part front [] n e h l = absurd (omega arith)
first_part front (x ∷ xs) zero e h l = absurd (omega (arith, l))
first_part front (x ∷ xs) (suc n) e h l =
    let short : n ≡ prefix_len is_letter xs = omega (arith, l) in
    let none : has_dot (take n xs) ≡ false = plain n xs short in
    rw (none, e) refl

-- and what stands behind it may follow
pub rest_follows : (front name : List ℕ) (n : ℕ) → 0 < length name → n ≡ 1 + prefix_len is_letter (drop 1 name)
    → may_follow front (drop n name) ≡ true
rest_follows front [] n h l = absurd (omega arith)
rest_follows front (x ∷ xs) zero h l = absurd (omega (arith, l))
rest_follows front (x ∷ xs) (suc n) h l =
    let short : n ≡ prefix_len is_letter xs = omega (arith, l) in
    dot_next n xs front short

-- letters that are passed one by one
pub ruleset letter_steps = (letter_step, letter_stop, letter_end)
