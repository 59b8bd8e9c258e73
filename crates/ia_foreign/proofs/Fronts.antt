-- Fronts of lists, step by step.
use Rattle.std.proofs.Common.{◌≡◌, ℕ, ◌+◌, ◌<◌, ◌≤◌, Bool, true, false, List, ◌∷◌, refl, drop, length, get_or}
use Rattle.std.proofs.lemmas.List.{at_drop_more, at_drop_all}
use Rattle.std.specs.List.{prefix_len}

pub prefix_step : (p : ℕ → Bool) (xs : List ℕ) (i : ℕ) → i < length xs → p (get_or xs i 0) ≡ true
    → prefix_len p (drop i xs) ≡ 1 + prefix_len p (drop (i + 1) xs)
prefix_step p xs i h e =
    let more : prefix_len p (drop i xs) ≡ prefix_len p (get_or xs i 0 ∷ drop (i + 1) xs) =
    at_drop_more (prefix_len p) xs i 0 h in
    rw more (rw e refl)

pub prefix_stop : (p : ℕ → Bool) (xs : List ℕ) (i : ℕ) → i < length xs → p (get_or xs i 0) ≡ false
    → prefix_len p (drop i xs) ≡ 0
prefix_stop p xs i h e =
    let more : prefix_len p (drop i xs) ≡ prefix_len p (get_or xs i 0 ∷ drop (i + 1) xs) =
    at_drop_more (prefix_len p) xs i 0 h in
    rw more (rw e refl)

pub prefix_end : (p : ℕ → Bool) (xs : List ℕ) (i : ℕ) → length xs ≤ i → prefix_len p (drop i xs) ≡ 0
prefix_end p xs i h = at_drop_all (prefix_len p) xs i h

-- prefixes that are passed one by one
pub ruleset prefix_steps = (prefix_step, prefix_stop, prefix_end)
