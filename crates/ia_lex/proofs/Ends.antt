-- The ends of lines.
use Rattle.std.proofs.Common.{◌≡◌, ℕ, zero, suc, ◌+◌, ◌-◌, ◌<◌, Bool, true, false, cond, List, [], ◌∷◌, refl, sym, ◌∙◌}
use Rattle.std.proofs.Common.{ap, take, drop, length, get_or, arith, inl, inr}
use Rattle.std.proofs.lemmas.Bool.{cases_Bool}
use Rattle.std.proofs.lemmas.List.{drop_all}
use Rattle.std.specs.Prelude.{◌==◌, ◌&&◌}
use Rattle.std.specs.List.{prefix_len}
use Rattle.ia_lex.specs.Chars.{differs}
use Rattle.ia_lex.specs.Lines.{onto, lines_of, without_cr}

pub ends_nowhere : (xs : List ℕ) → length xs ≡ 0 → xs ≡ without_cr xs
ends_nowhere [] e = refl
ends_nowhere (x ∷ xs) e = absurd (omega arith)

cr_at : (n : ℕ) (xs : List ℕ) → length xs ≡ suc n → get_or xs n 0 ≡ 13 → take n xs ≡ without_cr xs
cr_at n [] h e = absurd (omega arith)
cr_at zero (x ∷ []) h e = rw e refl
cr_at (suc n) (x ∷ []) h e = absurd (omega arith)
cr_at zero (x ∷ y ∷ xs) h e = absurd (omega arith)
cr_at (suc n) (x ∷ y ∷ xs) h e = ap (λ l. x ∷ l) (cr_at n (y ∷ xs) (omega arith) e)

no_cr_at : (n : ℕ) (xs : List ℕ) → length xs ≡ suc n → (get_or xs n 0 == 13) ≡ false → xs ≡ without_cr xs
no_cr_at n [] h e = refl
no_cr_at zero (x ∷ []) h e = rw e refl
no_cr_at (suc n) (x ∷ []) h e = absurd (omega arith)
no_cr_at zero (x ∷ y ∷ xs) h e = absurd (omega arith)
no_cr_at (suc n) (x ∷ y ∷ xs) h e = ap (λ l. x ∷ l) (no_cr_at n (y ∷ xs) (omega arith) e)

pub ends_in_cr : (xs : List ℕ) → 0 < length xs → get_or xs (length xs - 1) 0 ≡ 13
    → take (length xs - 1) xs ≡ without_cr xs
ends_in_cr xs h e = cr_at (length xs - 1) xs (omega arith) e

pub ends_otherwise : (xs : List ℕ) → 0 < length xs → (get_or xs (length xs - 1) 0 == 13) ≡ false → xs ≡ without_cr xs
ends_otherwise xs h e = no_cr_at (length xs - 1) xs (omega arith) e

-- a byte before one that is no line feed belongs to the same line
pick : {X : Type 0} (t u v : Bool) (a b c : X) → t ≡ false → v ≡ false → cond t a (cond (u && v) b c) ≡ c
pick false true false a b c e f = refl
pick false false false a b c e f = refl
pick true u v a b c e f = cc
pick false u true a b c e f = cc

step : (n b c : ℕ) (rest : List ℕ) → (b == 10) ≡ false → prefix_len (differs 10) (c ∷ rest) ≡ n
    → lines_of (c ∷ rest) ≡ without_cr (take n (c ∷ rest)) ∷ lines_of (drop (suc n) (c ∷ rest))
    → lines_of (b ∷ c ∷ rest) ≡ without_cr (take (suc n) (b ∷ c ∷ rest)) ∷ lines_of (drop (suc (suc n)) (b ∷ c ∷ rest))
step zero b c rest f e ih = elim (cases_Bool (c == 10)) [
  | inl t ↦ elim (cases_Bool (b == 13)) [ inl u ↦ simp (f, t, u) refl | inr u ↦ simp (f, t, u) refl ]
  | inr g ↦ let k : prefix_len (differs 10) (c ∷ rest) ≡ 1 + prefix_len (differs 10) rest = rw g refl in
      absurd (omega (arith, k, e))
]
step (suc n) b c rest f e ih = elim (cases_Bool (c == 10)) [
  | inl t ↦ let k : prefix_len (differs 10) (c ∷ rest) ≡ 0 = rw t refl in absurd (omega (arith, k, e))
  | inr g ↦ pick (b == 10) (b == 13) (c == 10) ([] ∷ lines_of (c ∷ rest)) (lines_of (c ∷ rest))
      (onto b (lines_of (c ∷ rest))) f g ∙ ap (onto b) ih
]

split_at : (n : ℕ) (xs : List ℕ) → prefix_len (differs 10) xs ≡ n → n < length xs
    → lines_of xs ≡ without_cr (take n xs) ∷ lines_of (drop (suc n) xs)
split_at n [] e h = absurd (omega arith)
split_at zero (b ∷ rest) e h = elim (cases_Bool (b == 10)) [
  | inl t ↦ rw t refl
  | inr f ↦ let k : prefix_len (differs 10) (b ∷ rest) ≡ 1 + prefix_len (differs 10) rest = rw f refl in
      absurd (omega (arith, k, e))
]
split_at (suc n) (b ∷ []) e h = absurd (omega arith)
split_at (suc n) (b ∷ c ∷ rest) e h = elim (cases_Bool (b == 10)) [
  | inl t ↦ let k : prefix_len (differs 10) (b ∷ c ∷ rest) ≡ 0 = rw t refl in absurd (omega (arith, k, e))
  | inr f ↦
      let k : prefix_len (differs 10) (b ∷ c ∷ rest) ≡ 1 + prefix_len (differs 10) (c ∷ rest) = rw f refl in
      let e2 : prefix_len (differs 10) (c ∷ rest) ≡ n = omega (arith, k, e) in
      step n b c rest f e2 (split_at n (c ∷ rest) e2 (omega arith))
]

-- a line that has a line feed behind it
pub first_is : (xs : List ℕ) → prefix_len (differs 10) xs < length xs
    → lines_of xs
    ≡ without_cr (take (prefix_len (differs 10) xs) xs) ∷ lines_of (drop (prefix_len (differs 10) xs + 1) xs)
first_is xs h = split_at (prefix_len (differs 10) xs) xs refl h
    ∙ (let k : suc (prefix_len (differs 10) xs) ≡ prefix_len (differs 10) xs + 1 = omega arith in
    ap (λ n. without_cr (take (prefix_len (differs 10) xs) xs) ∷ lines_of (drop n xs)) k)

alone : (xs : List ℕ) → 0 < length xs → prefix_len (differs 10) xs ≡ length xs → lines_of xs ≡ xs ∷ []
alone [] h e = absurd (omega arith)
alone (b ∷ []) h e = elim (cases_Bool (b == 10)) [
  | inl t ↦ let k : prefix_len (differs 10) (b ∷ []) ≡ 0 = rw t refl in absurd (omega (arith, k, e))
  | inr f ↦ pick (b == 10) (b == 13) false ([] ∷ []) [] ((b ∷ []) ∷ []) f refl
]
alone (b ∷ c ∷ rest) h e = elim (cases_Bool (b == 10)) [
  | inl t ↦ let k : prefix_len (differs 10) (b ∷ c ∷ rest) ≡ 0 = rw t refl in absurd (omega (arith, k, e))
  | inr f ↦
      let k : prefix_len (differs 10) (b ∷ c ∷ rest) ≡ 1 + prefix_len (differs 10) (c ∷ rest) = rw f refl in
      let e2 : prefix_len (differs 10) (c ∷ rest) ≡ length (c ∷ rest) = omega (arith, k, e) in
      elim (cases_Bool (c == 10)) [
        | inl t ↦ let j : prefix_len (differs 10) (c ∷ rest) ≡ 0 = rw t refl in absurd (omega (arith, j, e2))
        | inr g ↦ pick (b == 10) (b == 13) (c == 10) ([] ∷ lines_of (c ∷ rest)) (lines_of (c ∷ rest))
            (onto b (lines_of (c ∷ rest))) f g
            ∙ ap (onto b) (alone (c ∷ rest) (omega arith) e2)
      ]
]

-- a line that has none
pub first_is_all : (xs : List ℕ) → 0 < length xs → prefix_len (differs 10) xs ≡ length xs
    → lines_of xs ≡ xs ∷ lines_of (drop (length xs) xs)
first_is_all xs h e = alone xs h e ∙ ap (λ l. xs ∷ lines_of l) (sym (drop_all (length xs) xs (omega arith)))

-- where a line ends
pub ruleset line_ends = (ends_in_cr, ends_otherwise, ends_nowhere)
