-- Tokens between commas.
use Rattle.std.proofs.Common.{◌≡◌, ℕ, zero, suc, ◌+◌, ◌-◌, ◌<◌, ◌≤◌, true, false, List, [], ◌∷◌, refl, sym, ◌∙◌, ap}
use Rattle.std.proofs.Common.{take, drop, length, map, get_or, arith, inl, inr, ◌⊎◌, length-drop, nat_le}
use Rattle.std.proofs.lemmas.Bool.{cases_Bool}
use Rattle.std.proofs.lemmas.List.{at_drop_more, at_drop_all, take_rest, drop-drop}
use Rattle.std.specs.List.{prefix_len}
use Rattle.ia_lex.specs.declared.token.Token.{Token}
use Rattle.ia_lex.specs.Tokens.{lexeme_of}
use Rattle.ia_source.specs.Commas.{is_comma, onto_first, between_commas, goes_on, pieces_from}

pub goes_step : (xs : List Token) (i : ℕ) (x : Token) → i < length xs → goes_on (get_or xs i x) ≡ true
    → prefix_len goes_on (drop i xs) ≡ 1 + prefix_len goes_on (drop (i + 1) xs)
goes_step xs i x h e =
    let more : prefix_len goes_on (drop i xs) ≡ prefix_len goes_on (get_or xs i x ∷ drop (i + 1) xs) =
    at_drop_more (prefix_len goes_on) xs i x h in
    rw more (rw e refl)

pub goes_stop : (xs : List Token) (i : ℕ) (x : Token) → i < length xs → goes_on (get_or xs i x) ≡ false
    → prefix_len goes_on (drop i xs) ≡ 0
goes_stop xs i x h e =
    let more : prefix_len goes_on (drop i xs) ≡ prefix_len goes_on (get_or xs i x ∷ drop (i + 1) xs) =
    at_drop_more (prefix_len goes_on) xs i x h in
    rw more (rw e refl)

pub goes_end : (xs : List Token) (i : ℕ) → length xs ≤ i → prefix_len goes_on (drop i xs) ≡ 0
goes_end xs i h = at_drop_all (prefix_len goes_on) xs i h

split_at : (n : ℕ) (xs : List Token) → prefix_len goes_on xs ≡ n → n < length xs
    → between_commas (map lexeme_of xs) ≡ map lexeme_of (take n xs) ∷ between_commas (map lexeme_of (drop (suc n) xs))
split_at n [] e h = absurd (omega arith)
split_at zero (x ∷ xs) e h = elim (cases_Bool (is_comma (lexeme_of x))) [
  | inl t ↦ rw t refl
  | inr f ↦ let k : prefix_len goes_on (x ∷ xs) ≡ 1 + prefix_len goes_on xs = rw f refl in absurd (omega (arith, k, e))
]
split_at (suc n) (x ∷ xs) e h = elim (cases_Bool (is_comma (lexeme_of x))) [
  | inl t ↦ let k : prefix_len goes_on (x ∷ xs) ≡ 0 = rw t refl in absurd (omega (arith, k, e))
  | inr f ↦
      let k : prefix_len goes_on (x ∷ xs) ≡ 1 + prefix_len goes_on xs = rw f refl in
      rw f (ap (onto_first (lexeme_of x)) (split_at n xs (omega (arith, k, e)) (omega arith)))
]

-- a comma stands behind the first piece
pub first_piece : (xs : List Token) (n : ℕ) → n ≡ prefix_len goes_on xs → n < length xs
    → between_commas (map lexeme_of xs)
    ≡ map lexeme_of (take n xs) ∷ between_commas (map lexeme_of (take (length xs - (n + 1)) (drop (n + 1) xs)))
first_piece xs n e h =
    let k : suc n ≡ n + 1 = omega arith in
    split_at n xs (sym e) h ∙ ap (λ m. map lexeme_of (take n xs) ∷ between_commas (map lexeme_of (drop m xs))) k
    ∙ ap (λ (l : List Token). map lexeme_of (take n xs) ∷ between_commas (map lexeme_of l)) (sym (take_rest xs (n + 1)))

-- no comma stands behind it
pub only_piece : (xs : List Token) → prefix_len goes_on xs ≡ length xs
    → between_commas (map lexeme_of xs) ≡ map lexeme_of xs ∷ []
only_piece [] e = refl
only_piece (x ∷ xs) e = elim (cases_Bool (is_comma (lexeme_of x))) [
  | inl t ↦ let k : prefix_len goes_on (x ∷ xs) ≡ 0 = rw t refl in absurd (omega (arith, k, e))
  | inr f ↦
      let k : prefix_len goes_on (x ∷ xs) ≡ 1 + prefix_len goes_on xs = rw f refl in
      rw f (ap (onto_first (lexeme_of x)) (only_piece xs (omega (arith, k, e))))
]

-- a piece and what stands behind it
pub pieces_step : (xs : List Token) (place end : ℕ) → place ≤ length xs → end ≡ prefix_len goes_on (drop place xs)
    → end ≤ length (drop place xs)
    → pieces_from place xs ≡ map lexeme_of (take end (drop place xs)) ∷ pieces_from (place + (end + 1)) xs
pieces_step xs place end h e w =
    let inside : nat_le place (length xs) ≡ true = grind arith in
    let long : length (drop place xs) ≡ length xs - place = length-drop place xs in
    elim (below end (length (drop place xs)) w) [
      | inl less ↦
          let more : nat_le (place + (end + 1)) (length xs) ≡ true = grind (arith, long) in
          rw (inside, more) (split_at end (drop place xs) (sym e) less
          ∙ (let k : suc end ≡ end + 1 = omega arith in ap
          (λ m. map lexeme_of (take end (drop place xs)) ∷ between_commas (map lexeme_of (drop m (drop place xs)))) k)
          ∙ ap (λ (l : List Token). map lexeme_of (take end (drop place xs)) ∷ between_commas (map lexeme_of l))
          (drop-drop (end + 1) place xs))
      | inr same ↦
          let more : nat_le (place + (end + 1)) (length xs) ≡ false = grind (arith, long) in
          rw (inside, more) (only_piece (drop place xs) (sym e ∙ same)
          ∙ ap (λ (l : List Token). map lexeme_of l ∷ []) (sym (take_all end (drop place xs) same)))
    ]
  where
    below : (a b : ℕ) → a ≤ b → (a < b) ⊎ (a ≡ b)
    below a b h = grind arith

    take_all : (n : ℕ) (l : List Token) → n ≡ length l → take n l ≡ l
    take_all zero [] f = refl
    take_all zero (x ∷ l) f = absurd (omega arith)
    take_all (suc n) [] f = absurd (omega arith)
    take_all (suc n) (x ∷ l) f = ap (λ m. x ∷ m) (take_all n l (omega arith))

-- bytes up to a comma
pub ruleset comma_steps = (goes_step, goes_stop, goes_end)
