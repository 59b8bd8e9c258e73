-- Lines in their order: the first that passes is the one to take.
use Rattle.std.proofs.Common.{◌≡◌, ℕ, zero, suc, ◌+◌, ◌<◌, ◌≤◌, Bool, true, false, List, [], ◌∷◌, refl, ◌∙◌, ap, drop}
use Rattle.std.proofs.Common.{length, arith, inl, inr}
use Rattle.std.proofs.lemmas.Bool.{and_parts, cases_Bool, or_cases}
use Rattle.std.specs.Prelude.{◌&&◌, ◌||◌}
use Rattle.std.specs.List.{position_or_len}
use denote.Bor.{Bor}
use Rattle.elide_expect.specs.Judged.{followed, in_order}
use Rattle.elide_expect.specs.Patterns.{meets}
use Rattle.elide_expect.proofs.Behind.{absorbed, or_true}

followed_of : {X : Type 0} (test : X → Bool) (next : List X → Bool) (j : ℕ) (ls : List X)
    → followed test next (drop j ls) ≡ true → followed test next ls ≡ true
followed_of test next zero [] h = h
followed_of test next (suc j) [] h = h
followed_of test next zero (l ∷ ls) h = h
followed_of test next (suc j) (l ∷ ls) h =
    ap (λ t. (test l && next ls) || t) (followed_of test next j ls h) ∙ or_true (test l && next ls)

order_of : (patterns : List (List (List ℕ))) (j : ℕ) (ls : List (Bor (List ℕ))) → in_order patterns (drop j ls) ≡ true
    → in_order patterns ls ≡ true
order_of [] j ls h = refl
order_of (p ∷ ps) j ls h = followed_of (λ line. meets p line.now) (in_order ps) j ls h

-- what follows a later line follows an earlier one
next_of : (test : Bor (List ℕ) → Bool) (ps : List (List (List ℕ))) (ls : List (Bor (List ℕ)))
    → followed test (in_order ps) ls ≡ true → in_order ps ls ≡ true
next_of test ps [] h = cc
next_of test ps (l ∷ ls) h =
    order_of ps 1 (l ∷ ls) (elim (or_cases (test l && in_order ps ls) (followed test (in_order ps) ls) h) [
      | inl a ↦ (and_parts (test l) (in_order ps ls) a).1
      | inr b ↦ next_of test ps ls b
    ])

pub followed_some : (test : Bor (List ℕ) → Bool) (ps : List (List (List ℕ))) (ls : List (Bor (List ℕ)))
    → position_or_len test ls < length ls
    → followed test (in_order ps) ls ≡ in_order ps (drop (position_or_len test ls + 1) ls)
followed_some test ps [] h = absurd (omega arith)
followed_some test ps (l ∷ ls) h = elim (cases_Bool (test l)) [
  | inl t ↦ rw t (absorbed (in_order ps ls) (followed test (in_order ps) ls) (next_of test ps ls))
  | inr f ↦
      let n : position_or_len test (l ∷ ls) ≡ 1 + position_or_len test ls = rw f refl in
      let k : position_or_len test ls < length ls = omega (arith, n, h) in
      let m : suc (position_or_len test ls + 1) ≡ position_or_len test (l ∷ ls) + 1 = omega (arith, n) in
      let e : followed test (in_order ps) (l ∷ ls) ≡ followed test (in_order ps) ls = rw f refl in
      e ∙ followed_some test ps ls k ∙ ap (λ n. in_order ps (drop n (l ∷ ls))) m
]

pub followed_none : (test : Bor (List ℕ) → Bool) (ps : List (List (List ℕ))) (ls : List (Bor (List ℕ)))
    → length ls ≤ position_or_len test ls → followed test (in_order ps) ls ≡ false
followed_none test ps [] h = refl
followed_none test ps (l ∷ ls) h = elim (cases_Bool (test l)) [
  | inl t ↦ let n : position_or_len test (l ∷ ls) ≡ 0 = rw t refl in absurd (omega (arith, n, h))
  | inr f ↦
      let n : position_or_len test (l ∷ ls) ≡ 1 + position_or_len test ls = rw f refl in
      let k : length ls ≤ position_or_len test ls = omega (arith, n, h) in
      let e : followed test (in_order ps) (l ∷ ls) ≡ followed test (in_order ps) ls = rw f refl in
      e ∙ followed_none test ps ls k
]
