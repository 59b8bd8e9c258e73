-- The first of a list whose name a word is, step by step.
use Rattle.std.proofs.Common.{◌≡◌, ℕ, ◌+◌, ◌<◌, ◌≤◌, true, false, List, ◌∷◌, drop, length, get_or, refl, Some, None}
use Rattle.std.proofs.lemmas.List.{at_drop_more, at_drop_all}
use Rattle.ia_lex.specs.Words.{is_word}
use Rattle.ia_source.specs.Keywords.{find_named}

pub named_step : {A : Type 0} (name : A → List ℕ) (w : List ℕ) (xs : List A) (i : ℕ) (x : A) → i < length xs
    → is_word (name (get_or xs i x)) w ≡ false → find_named name (drop i xs) w ≡ find_named name (drop (i + 1) xs) w
named_step name w xs i x h e =
    let more : find_named name (drop i xs) w ≡ find_named name (get_or xs i x ∷ drop (i + 1) xs) w =
    at_drop_more (λ ys. find_named name ys w) xs i x h in
    rw more (rw e refl)

pub named_stop : {A : Type 0} (name : A → List ℕ) (w : List ℕ) (xs : List A) (i : ℕ) (x : A) → i < length xs
    → is_word (name (get_or xs i x)) w ≡ true → find_named name (drop i xs) w ≡ Some (get_or xs i x)
named_stop name w xs i x h e =
    let more : find_named name (drop i xs) w ≡ find_named name (get_or xs i x ∷ drop (i + 1) xs) w =
    at_drop_more (λ ys. find_named name ys w) xs i x h in
    rw more (rw e refl)

pub named_end : {A : Type 0} (name : A → List ℕ) (w : List ℕ) (xs : List A) (i : ℕ) → length xs ≤ i
    → find_named name (drop i xs) w ≡ None
named_end name w xs i h = at_drop_all (λ ys. find_named name ys w) xs i h

-- a list of names that is gone through
pub ruleset named_steps = (named_step, named_stop, named_end)
