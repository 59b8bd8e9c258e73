-- Chunks of a list that are alike.
use Rattle.std.proofs.Common.{◌≡◌, ◌≤◌, ◌+◌, ◌-◌, ℕ, List, ◌++◌, length, take, drop, replicate}
use Rattle.std.proofs.Common.{arith, sym, ap, ◌∙◌, subst}
use Rattle.std.proofs.lemmas.Grind.{common_steps}
use Rattle.std.proofs.lemmas.List.{drop-take, replicate-append-replicate, take-append-drop, take-take}

take_on : {X : Type 0} (xs : List X) (i n : ℕ) → take i xs ++ take n (drop i xs) ≡ take (i + n) xs
take_on xs i n =
    ap (λ l. l ++ take n (drop i xs)) (sym (take-take i (i + n) xs (omega arith)))
    ∙ ap (λ l. take i (take (i + n) xs) ++ l) (sym (drop-take i n xs))
    ∙ take-append-drop i (take (i + n) xs)

alike_on : {X : Type 0} (xs : List X) (x : X) (i n : ℕ) → take i xs ≡ replicate i x
    → take n (drop i xs) ≡ replicate n x → take (i + n) xs ≡ replicate (i + n) x
alike_on xs x i n h k =
    sym (take_on xs i n) ∙ ap (λ l. l ++ take n (drop i xs)) h ∙ ap (λ l. replicate i x ++ l) k
    ∙ replicate-append-replicate i n x

size_of : (i n : ℕ) → (i + n) - i ≡ n
size_of i n = omega arith

whole : {X : Type 0} (xs : List X) (i n : ℕ) → i + n ≤ length xs → length (take n (drop i xs)) ≡ n
whole xs i n below = grind (arith, common_steps)

-- alike so far, and alike in the chunk behind
pub chunk_on : {X : Type 0} (xs : List X) (x : X) (i n : ℕ) → i + n ≤ length xs → take i xs ≡ replicate i x
    → take ((i + n) - i) (drop i xs) ≡ replicate (length (take ((i + n) - i) (drop i xs))) x
    → take (i + n) xs ≡ replicate (i + n) x
chunk_on {X} xs x i n below h k =
    let Alike : ℕ → Type 0 = λ m. take m (drop i xs) ≡ replicate (length (take m (drop i xs))) x in
    let chunk : Alike n = subst Alike (size_of i n) k in
    alike_on xs x i n h (chunk ∙ ap (λ m. replicate m x) (whole xs i n below))
