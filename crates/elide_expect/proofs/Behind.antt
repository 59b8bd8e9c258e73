-- Pieces of a text, and where they stand.
use Rattle.std.proofs.Common.{◌≡◌, ◌≢◌, ℕ, zero, suc, ◌+◌, ◌-◌, ◌<◌, Bool, true, false, List, [], ◌∷◌, ◌++◌, map}
use Rattle.std.proofs.Common.{append_assoc, Option, Some, None, refl, sym, ◌∙◌, ap, take, drop, length, get_or, arith}
use Rattle.std.proofs.Common.{inl, inr, nat_eq}
use Rattle.std.proofs.lemmas.Bool.{cases_Bool, cases_lt}
use Rattle.std.proofs.lemmas.List.{at_drop_more, drop-drop, drop_more}
use denote.Bor.{Bor}
use Rattle.std.specs.Prelude.{◌&&◌, ◌||◌, codes, option_map}
use Rattle.std.specs.Cmp.Lexicographic.{pointwise}
use Rattle.std.specs.List.{starts_with, ends_with}
use Rattle.ia_lex.specs.Lines.{onto}
use Rattle.elide_expect.specs.Patterns.{meets, pieces_from, pieces_of, place_of, some_end}

-- ---- the first place

shift : (i : ℕ) (place : Option ℕ)
    → option_map (λ k. i + k) (option_map (λ k. suc k) place) ≡ option_map (λ k. i + 1 + k) place
shift i None = refl
shift i (Some k) = let e : i + suc k ≡ i + 1 + k = omega arith in ap Some e

place_cons : (i : ℕ) (p : List ℕ) (b : ℕ) (bs : List ℕ) → starts_with nat_eq (b ∷ bs) p ≡ false
    → option_map (λ k. i + k) (place_of p (b ∷ bs)) ≡ option_map (λ k. i + 1 + k) (place_of p bs)
place_cons i p b bs e = rw e (shift i (place_of p bs))

pub place_more : (p xs : List ℕ) (i : ℕ) → i < length xs → starts_with nat_eq (drop i xs) p ≡ false
    → option_map (λ k. i + k) (place_of p (drop i xs)) ≡ option_map (λ k. i + 1 + k) (place_of p (drop (i + 1) xs))
place_more p xs i h e =
    let d : drop i xs ≡ get_or xs i 0 ∷ drop (i + 1) xs = at_drop_more (λ l. l) xs i 0 h in
    let f : starts_with nat_eq (get_or xs i 0 ∷ drop (i + 1) xs) p ≡ false =
    sym (ap (λ l. starts_with nat_eq l p) d) ∙ e in
    ap (λ l. option_map (λ k. i + k) (place_of p l)) d ∙ place_cons i p (get_or xs i 0) (drop (i + 1) xs) f

-- ---- the pieces of a text

skip : (k : ℕ) (bs : List ℕ) → pieces_from k bs ≡ pieces_from 0 (drop k bs)
skip zero [] = refl
skip (suc k) [] = refl
skip zero (b ∷ rest) = refl
skip (suc k) (b ∷ rest) = skip k rest

abbrev pub cut_at : List ℕ → Option ℕ → List (List ℕ)
cut_at text None = text ∷ []
cut_at text (Some k) = take k text ∷ pieces_of (drop (k + 3) text)

onto_cut : (b : ℕ) (bs : List ℕ) (place : Option ℕ)
    → onto b (cut_at bs place) ≡ cut_at (b ∷ bs) (option_map (λ k. suc k) place)
onto_cut b bs None = refl
onto_cut b bs (Some k) =
    let e : suc k + 3 ≡ suc (k + 3) = omega arith in ap (λ n. (b ∷ take k bs) ∷ pieces_of (drop n (b ∷ bs))) (sym e)

pub pieces_step : (text : List ℕ) → pieces_of text ≡ cut_at text (place_of (codes "...") text)
pieces_step [] = refl
pieces_step (b ∷ bs) = elim (cases_Bool (starts_with nat_eq (b ∷ bs) (codes "..."))) [
  | inl t ↦ rw t (ap (λ l. [] ∷ l) (skip 2 bs))
  | inr f ↦ rw f (ap (onto b) (pieces_step bs) ∙ onto_cut b bs (place_of (codes "...") bs))
]

-- ---- pieces behind one another

pub or_true : (x : Bool) → (x || true) ≡ true
or_true true = refl
or_true false = refl

or_false : (x : Bool) → (x || false) ≡ x
or_false true = refl
or_false false = refl

and_false : (x : Bool) → (x && false) ≡ false
and_false true = refl
and_false false = refl

some_end_of : (f : List ℕ → Bool) (j : ℕ) (l : List ℕ) → some_end f (drop j l) ≡ true → some_end f l ≡ true
some_end_of f zero [] h = h
some_end_of f (suc j) [] h = h
some_end_of f zero (b ∷ bs) h = h
some_end_of f (suc j) (b ∷ bs) h = ap (λ t. f (b ∷ bs) || t) (some_end_of f j bs h) ∙ or_true (f (b ∷ bs))

other_length : (a b : List ℕ) → length a ≢ length b → pointwise nat_eq a b ≡ false
other_length [] [] h = absurd (h refl)
other_length [] (y ∷ b) h = refl
other_length (x ∷ a) [] h = refl
other_length (x ∷ a) (y ∷ b) h =
    let k : length a ≢ length b = omega (arith, h) in
    ap (λ t. nat_eq x y && t) (other_length a b k) ∙ and_false (nat_eq x y)

last_of : (p : List ℕ) (b : ℕ) (bs : List ℕ)
    → (pointwise nat_eq p (b ∷ bs) || ends_with nat_eq bs p) ≡ ends_with nat_eq (b ∷ bs) p
last_of p b bs = elim (cases_lt (length bs) (length p)) [
  | inl more ↦
      let z : length (b ∷ bs) - length p ≡ 0 = omega arith in
      let y : length bs - length p ≡ 0 = omega arith in
      let n : length p ≢ length bs = omega arith in
      let f : ends_with nat_eq bs p ≡ false = ap (λ k. pointwise nat_eq p (drop k bs)) y ∙ other_length p bs n in
      ap (λ t. pointwise nat_eq p (b ∷ bs) || t) f ∙ or_false (pointwise nat_eq p (b ∷ bs))
      ∙ ap (λ k. pointwise nat_eq p (drop k (b ∷ bs))) (sym z)
  | inr less ↦
      let e : suc (length bs - length p) ≡ length (b ∷ bs) - length p = omega arith in
      let n : length p ≢ length (b ∷ bs) = omega arith in
      ap (λ t. t || ends_with nat_eq bs p) (other_length p (b ∷ bs) n)
      ∙ ap (λ k. pointwise nat_eq p (drop k (b ∷ bs))) e
]

-- the last piece stands at the end
pub last_step : (p l : List ℕ) → some_end (meets (p ∷ [])) l ≡ ends_with nat_eq l p
last_step p [] = let z : 0 - length p ≡ 0 = omega arith in ap (λ k. pointwise nat_eq p (drop k [])) (sym z)
last_step p (b ∷ bs) = ap (λ t. pointwise nat_eq p (b ∷ bs) || t) (last_step p bs) ∙ last_of p b bs

-- what is left behind a piece
abbrev pub left : List (List ℕ) → List ℕ → List ℕ → Option ℕ → Bool
left pieces p l None = false
left pieces p l (Some k) = some_end (meets pieces) (drop (k + length p) l)

left_more : (pieces : List (List ℕ)) (p : List ℕ) (b : ℕ) (bs : List ℕ) (place : Option ℕ)
    → left pieces p bs place ≡ left pieces p (b ∷ bs) (option_map (λ k. suc k) place)
left_more pieces p b bs None = refl
left_more pieces p b bs (Some k) =
    let e : suc (k + length p) ≡ suc k + length p = omega arith in
    ap (λ n. some_end (meets pieces) (drop n (b ∷ bs))) e

-- a later place leaves no more
left_less : (pieces : List (List ℕ)) (p : List ℕ) (b : ℕ) (bs : List ℕ) (place : Option ℕ)
    → left pieces p bs place ≡ true → some_end (meets pieces) (drop (length p) (b ∷ bs)) ≡ true
left_less pieces p b bs None h = cc
left_less pieces p b bs (Some k) h =
    let e : length p + suc k ≡ suc (k + length p) = omega arith in
    let d : drop (suc k) (drop (length p) (b ∷ bs)) ≡ drop (k + length p) bs
    = drop-drop (suc k) (length p) (b ∷ bs) ∙ ap (λ n. drop n (b ∷ bs)) e in
    some_end_of (meets pieces) (suc k) (drop (length p) (b ∷ bs)) (ap (some_end (meets pieces)) d ∙ h)

pub absorbed : (x y : Bool) → (y ≡ true → x ≡ true) → (x || y) ≡ x
absorbed x true h = or_true x ∙ sym (h refl)
absorbed x false h = or_false x

plain : (n : ℕ) → n ≡ 0 + n
plain n = omega arith

step_two : (p q : List ℕ) (ps : List (List ℕ)) (l : List ℕ)
    → some_end (meets (p ∷ q ∷ ps)) l ≡ left (q ∷ ps) p l (place_of p l)
step_two p q ps [] = elim (cases_Bool (starts_with nat_eq [] p)) [
  | inl t ↦ rw t (ap (λ n. some_end (meets (q ∷ ps)) (drop n [])) (plain (length p)))
  | inr f ↦ rw f refl
]
step_two p q ps (b ∷ bs) = elim (cases_Bool (starts_with nat_eq (b ∷ bs) p)) [
  | inl t ↦ rw t (absorbed (some_end (meets (q ∷ ps)) (drop (length p) (b ∷ bs))) (some_end (meets (p ∷ q ∷ ps)) bs)
      (λ h. left_less (q ∷ ps) p b bs (place_of p bs) (sym (step_two p q ps bs) ∙ h))
      ∙ ap (λ n. some_end (meets (q ∷ ps)) (drop n (b ∷ bs))) (plain (length p)))
  | inr f ↦ rw f (step_two p q ps bs ∙ left_more (q ∷ ps) p b bs (place_of p bs))
]

-- the first place of a piece is the one to take
pub piece_step : (p : List ℕ) (ps : List (List ℕ)) (l : List ℕ) → 0 < length ps
    → some_end (meets (p ∷ ps)) l ≡ left ps p l (place_of p l)
piece_step p [] l h = absurd (omega arith)
piece_step p (q ∷ ps) l h = step_two p q ps l

pub ends_none : (l : List ℕ) → some_end (meets []) l ≡ false
ends_none [] = refl
ends_none (b ∷ bs) = ends_none bs

-- ---- the same of slices of bytes

abbrev pub nows : List (Bor (List ℕ)) → List (List ℕ)
nows rows = map (λ row. row.now) rows

abbrev pub nothing : Bor (List ℕ)
nothing = record { ref_ptr = (0, 0); now = [] }

some_last : (rows : List (Bor (List ℕ))) (last : Bor (List ℕ)) → 0 < length (nows (rows ++ last ∷ []))
some_last [] last = omega arith
some_last (row ∷ rows) last = omega arith

pub behind_step : (rows : List (Bor (List ℕ))) (last : Bor (List ℕ)) (i : ℕ) (l : List ℕ) → i < length rows
    → some_end (meets (nows (drop i rows ++ last ∷ []))) l
    ≡ left (nows (drop (i + 1) rows ++ last ∷ [])) (get_or rows i nothing).now l
    (place_of (get_or rows i nothing).now l)
behind_step rows last i l h =
    ap (λ ms. some_end (meets (nows (ms ++ last ∷ []))) l) (drop_more rows i nothing h)
    ∙ piece_step (get_or rows i nothing).now (nows (drop (i + 1) rows ++ last ∷ [])) l
    (some_last (drop (i + 1) rows) last)

pub of_none : (rows : List (Bor (List ℕ))) (l : List ℕ) → length rows ≡ 0 → some_end (meets (nows rows)) l ≡ false
of_none [] l h = ends_none l
of_none (row ∷ rows) l h = absurd (omega arith)

pub pieces_more : (before : List (List ℕ)) (from at : ℕ) (text : List ℕ) (all : List (List ℕ))
    → before ++ pieces_of (drop from text) ≡ all → place_of (codes "...") (drop from text) ≡ Some at
    → (before ++ take at (drop from text) ∷ []) ++ pieces_of (drop (from + (at + 3)) text) ≡ all
pieces_more before from at text all e found =
    append_assoc before (take at (drop from text) ∷ []) (pieces_of (drop (from + (at + 3)) text))
    ∙ ap (λ l. before ++ take at (drop from text) ∷ pieces_of l) (sym (drop-drop (at + 3) from text))
    ∙ ap (λ l. before ++ l) (sym (pieces_step (drop from text) ∙ ap (cut_at (drop from text)) found)) ∙ e

pub pieces_end : (before : List (List ℕ)) (text : List ℕ) (all : List (List ℕ))
    → before ++ pieces_of text ≡ all → place_of (codes "...") text ≡ None → before ++ text ∷ [] ≡ all
pieces_end before text all e found = ap (λ l. before ++ l) (sym (pieces_step text ∙ ap (cut_at text) found)) ∙ e
