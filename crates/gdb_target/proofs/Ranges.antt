-- Texts of numbers in a row, a number more at a time.
use Rattle.std.proofs.Common.{◌≡◌, ℕ, ◌+◌, List, [], ◌∷◌, ◌++◌, sym, ◌∙◌, ap, append-nil, append_assoc}
use Rattle.std.specs.List.{flat_map, range_with_len}
use Rattle.std.proofs.lemmas.List.Concat.{flat_map-append}
use Rattle.tm_hist.proofs.Rows.{range_parts}

texts_more : (f : ℕ → List ℕ) (a n : ℕ)
    → flat_map f (range_with_len a (n + 1)) ≡ flat_map f (range_with_len a n) ++ f (a + n)
texts_more f a n =
    ap (flat_map f) (range_parts a n 1) ∙ flat_map-append f (range_with_len a n) ((a + n) ∷ [])
    ∙ ap (λ xs. flat_map f (range_with_len a n) ++ xs) (append-nil (f (a + n)))

-- a row with the text of one number more
pub row_more : (f : ℕ → List ℕ) (a n : ℕ) (front row more text : List ℕ)
    → row ≡ front ++ flat_map f (range_with_len a n) → text ≡ f (a + n) → more ≡ row ++ text
    → more ≡ front ++ flat_map f (range_with_len a (n + 1))
row_more f a n front row more text so_far is grown =
    grown ∙ ap (λ l. l ++ text) so_far ∙ append_assoc front (flat_map f (range_with_len a n)) text
    ∙ ap (λ l. front ++ (flat_map f (range_with_len a n) ++ l)) is
    ∙ ap (λ l. front ++ l) (sym (texts_more f a n))
