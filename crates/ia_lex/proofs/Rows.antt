-- The first row whose name a word is, step by step.
use Rattle.std.proofs.Common.{◌≡◌, ℕ, ◌+◌, ◌<◌, ◌≤◌, true, false, List, ◌∷◌, drop, length, get_or, map, refl, Some}
use Rattle.std.proofs.Common.{None}
use Rattle.std.proofs.lemmas.List.{at_drop_more, at_drop_all}
use denote.Bor.{Bor}
use Rattle.ia_lex.specs.Words.{is_word, row, find_word}

pub row_step : {A : Type 0} (w : List ℕ) (xs : List (Bor (List ℕ) × A)) (i : ℕ) (x : Bor (List ℕ) × A) → i < length xs
    → is_word (get_or xs i x).0.now w ≡ false
    → find_word (map row (drop i xs)) w ≡ find_word (map row (drop (i + 1) xs)) w
row_step w xs i x h e =
    let more : find_word (map row (drop i xs)) w ≡ find_word (map row (get_or xs i x ∷ drop (i + 1) xs)) w =
    at_drop_more (λ ys. find_word (map row ys) w) xs i x h in
    rw more (rw e refl)

pub row_stop : {A : Type 0} (w : List ℕ) (xs : List (Bor (List ℕ) × A)) (i : ℕ) (x : Bor (List ℕ) × A) → i < length xs
    → is_word (get_or xs i x).0.now w ≡ true → find_word (map row (drop i xs)) w ≡ Some (get_or xs i x).1
row_stop w xs i x h e =
    let more : find_word (map row (drop i xs)) w ≡ find_word (map row (get_or xs i x ∷ drop (i + 1) xs)) w =
    at_drop_more (λ ys. find_word (map row ys) w) xs i x h in
    rw more (rw e refl)

pub row_end : {A : Type 0} (w : List ℕ) (xs : List (Bor (List ℕ) × A)) (i : ℕ) → length xs ≤ i
    → find_word (map row (drop i xs)) w ≡ None
row_end w xs i h = at_drop_all (λ ys. find_word (map row ys) w) xs i h
