-- Lines of a text that is read byte by byte.
use Rattle.std.proofs.Common.{◌≡◌, ℕ, suc, ◌+◌, ◌<◌, ◌≤◌, false, List, [], ◌∷◌, ◌++◌, refl, ◌∙◌, ap, take, drop, length}
use Rattle.std.proofs.Common.{arith, inl, inr}
use Rattle.std.proofs.lemmas.Bool.{cases_Bool}
use Rattle.std.proofs.lemmas.List.{drop_all, length-append, take_at}
use Rattle.std.specs.Prelude.{◌==◌}
use Rattle.std.specs.List.{prefix_len}
use Rattle.ia_lex.specs.Chars.{differs}
use Rattle.ia_lex.specs.Lines.{lines_of, without_cr}
use Rattle.ia_lex.proofs.Ends.{first_is, first_is_all}
use Rattle.tm_debug.specs.Serving.{HasNoFeed}

pub still_long : (xs : List ℕ) → 257 < length xs → 256 < length (without_cr xs)
still_long xs h = let k = shorter xs in omega arith where
  shorter : (xs : List ℕ) → length xs ≤ length (without_cr xs) + 1
  shorter [] = omega arith
  shorter (b ∷ []) = elim (cases_Bool (b == 13)) [
    | inl t ↦ let e : length (without_cr (b ∷ [])) ≡ 0 = rw t refl in omega arith
    | inr f ↦ let e : length (without_cr (b ∷ [])) ≡ 1 = rw f refl in omega arith
  ]
  shorter (b ∷ c ∷ xs) = let h = shorter (c ∷ xs) in omega arith

pub no_feed_more : (xs : List ℕ) (b : ℕ) → (b == 10) ≡ false → HasNoFeed xs → HasNoFeed (xs ++ b ∷ [])
no_feed_more [] b f h = rw f refl
no_feed_more (x ∷ xs) b f h = elim (cases_Bool (x == 10)) [
  | inl t ↦ let k : prefix_len (differs 10) (x ∷ xs) ≡ 0 = rw t refl in absurd (omega (arith, k, h))
  | inr g ↦
      let k : prefix_len (differs 10) (x ∷ xs) ≡ 1 + prefix_len (differs 10) xs = rw g refl in
      let j : prefix_len (differs 10) (x ∷ xs ++ b ∷ []) ≡ 1 + prefix_len (differs 10) (xs ++ b ∷ []) = rw g refl in
      let h2 : HasNoFeed xs = omega (arith, k, h) in
      let i = no_feed_more xs b f h2 in
      omega (arith, j, i)
]

feed_at : (xs ys : List ℕ) → HasNoFeed xs → prefix_len (differs 10) (xs ++ 10 ∷ ys) ≡ length xs
feed_at [] ys h = refl
feed_at (x ∷ xs) ys h = elim (cases_Bool (x == 10)) [
  | inl t ↦ let k : prefix_len (differs 10) (x ∷ xs) ≡ 0 = rw t refl in absurd (omega (arith, k, h))
  | inr g ↦
      let k : prefix_len (differs 10) (x ∷ xs) ≡ 1 + prefix_len (differs 10) xs = rw g refl in
      let j : prefix_len (differs 10) (x ∷ xs ++ 10 ∷ ys) ≡ 1 + prefix_len (differs 10) (xs ++ 10 ∷ ys) = rw g refl in
      let h2 : HasNoFeed xs = omega (arith, k, h) in
      let i = feed_at xs ys h2 in
      omega (arith, j, i)
]

drop_front : (xs ys : List ℕ) (b : ℕ) → drop (suc (length xs)) (xs ++ b ∷ ys) ≡ ys
drop_front [] ys b = refl
drop_front (x ∷ xs) ys b = drop_front xs ys b

-- a line that has a line feed behind it
pub line_at_feed : (xs ys : List ℕ) → HasNoFeed xs → lines_of (xs ++ 10 ∷ ys) ≡ without_cr xs ∷ lines_of ys
line_at_feed xs ys h =
    let at = feed_at xs ys h in
    let size = length-append xs (10 ∷ ys) in
    let next : length xs + 1 ≡ suc (length xs) = omega arith in
    let below : prefix_len (differs 10) (xs ++ 10 ∷ ys) < length (xs ++ 10 ∷ ys) = omega arith in
    first_is (xs ++ 10 ∷ ys) below
    ∙ ap (λ n. without_cr (take n (xs ++ 10 ∷ ys)) ∷ lines_of (drop (n + 1) (xs ++ 10 ∷ ys))) at
    ∙ ap (λ l. without_cr l ∷ lines_of (drop (length xs + 1) (xs ++ 10 ∷ ys))) (take_at xs (10 ∷ ys) (length xs) refl)
    ∙ ap (λ l. without_cr xs ∷ lines_of l) (ap (λ n. drop n (xs ++ 10 ∷ ys)) next ∙ drop_front xs ys 10)

-- the last line
pub line_at_end : (xs : List ℕ) → 0 < length xs → HasNoFeed xs → lines_of xs ≡ xs ∷ lines_of []
line_at_end xs some h = first_is_all xs some h ∙ ap (λ l. xs ∷ lines_of l) (drop_all (length xs) xs (omega arith))
