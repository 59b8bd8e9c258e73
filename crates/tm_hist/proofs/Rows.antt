-- A text that is written a row at a time.
use Rattle.std.proofs.Common.{◌≡◌, ℕ, zero, suc, ◌+◌, ◌-◌, ◌<◌, List, [], ◌∷◌, ◌++◌, sym, ◌∙◌, ap, subst, arith}
use Rattle.std.proofs.Common.{append-nil, append_assoc, zero-add, add-zero, drop, get_or, length, take, take-suc}
use Rattle.std.specs.List.{flat_map, range_with_len}
use Rattle.std.proofs.lemmas.List.{take-append-drop}
use Rattle.std.proofs.lemmas.List.Concat.{flat_map-append}
use Rattle.std.specs.Prelude.{Result, IsErr}
use Rattle.std.proofs.lemmas.Result.{MatchResult-from_err}
use Rattle.text_out.specs.Writing.{Device, Wrote, Stopped, Writes}
use Rattle.text_out.proofs.Writing.{wrote_then, stopped_then, stopped_first}

pub range_parts : (a i k : ℕ) → range_with_len a (i + k) ≡ range_with_len a i ++ range_with_len (a + i) k
range_parts a zero k = ap (range_with_len a) (zero-add k) ∙ ap (λ n. range_with_len n k) (sym (add-zero a))
range_parts a (suc i) k =
    let e : suc i + k ≡ suc (i + k) = omega arith in
    let j : a + 1 + i ≡ a + suc i = omega arith in
    ap (range_with_len a) e
    ∙ ap (λ xs. a ∷ xs) (range_parts (a + 1) i k ∙ ap (λ n. range_with_len (a + 1) i ++ range_with_len n k) j)

-- the rows up to one, that row and the others
pub rows_split : (f : ℕ → List ℕ) (i n : ℕ) → i < n →
    flat_map f (range_with_len 0 n)
    ≡ flat_map f (range_with_len 0 i) ++ (f i ++ flat_map f (range_with_len (i + 1) (n - i - 1)))
rows_split f i n h =
    let e : n ≡ i + suc (n - i - 1) = omega arith in
    let j : 0 + i ≡ i = zero-add i in
    ap (λ k. flat_map f (range_with_len 0 k)) e ∙ ap (flat_map f) (range_parts 0 i (suc (n - i - 1)))
    ∙ flat_map-append f (range_with_len 0 i) (range_with_len (0 + i) (suc (n - i - 1)))
    ∙ ap (λ k. flat_map f (range_with_len 0 i) ++ flat_map f (range_with_len k (suc (n - i - 1)))) j

pub rows_more : (f : ℕ → List ℕ) (i : ℕ)
    → flat_map f (range_with_len 0 (i + 1)) ≡ flat_map f (range_with_len 0 i) ++ f i
rows_more f i =
    let e : i + 1 - i - 1 ≡ 0 = omega arith in
    rows_split f i (i + 1) (omega arith)
    ∙ ap (λ k. flat_map f (range_with_len 0 i) ++ (f i ++ flat_map f (range_with_len (i + 1) k))) e
    ∙ ap (λ xs. flat_map f (range_with_len 0 i) ++ xs) (append-nil (f i))

pub wrote_row : {a b c : Device} (f : ℕ → List ℕ) (i : ℕ) → Wrote a b (flat_map f (range_with_len 0 i))
    → Wrote b c (f i) → Wrote a c (flat_map f (range_with_len 0 (i + 1)))
wrote_row {a} {b} {c} f i h k =
    let P : List ℕ → Type 0 = λ text. Wrote a c text in subst P (sym (rows_more f i)) (wrote_then h k)

pub stopped_row : {a b c : Device} (f : ℕ → List ℕ) (i n : ℕ) → i < n → Wrote a b (flat_map f (range_with_len 0 i))
    → Stopped b c (f i) → Stopped a c (flat_map f (range_with_len 0 n))
stopped_row {a} {b} {c} f i n l h k =
    let P : List ℕ → Type 0 = λ text. Stopped a c text in
    subst P (sym (rows_split f i n l))
    (stopped_then h (stopped_first (flat_map f (range_with_len (i + 1) (n - i - 1))) k))

-- a call that writes the rows up to n stops within row i
pub writes_stopped_row : {T E : Type 0} {a b c : Device} (f : ℕ → List ℕ) (i n : ℕ) (r : Result T E) → IsErr r → i < n
    → Wrote a b (flat_map f (range_with_len 0 i)) → Stopped b c (f i) → Writes a c (flat_map f (range_with_len 0 n)) r
writes_stopped_row {T} {E} {a} {b} {c} f i n r failed l h k =
    MatchResult-from_err r (λ _. Wrote a c (flat_map f (range_with_len 0 n)))
    (λ _. Stopped a c (flat_map f (range_with_len 0 n))) failed (λ _. stopped_row f i n l h k)

-- the same of the items of a list: those up to one, that one, and the others
pub items_split : {A : Type 0} (f : A → List ℕ) (xs : List A) (i : ℕ) (d : A) → i < length xs →
    flat_map f xs ≡ flat_map f (take i xs) ++ (f (get_or xs i d) ++ flat_map f (drop (suc i) xs))
items_split f xs i d h =
    ap (flat_map f)
    (sym (take-append-drop (suc i) xs) ∙ ap (λ front. front ++ drop (suc i) xs) (take-suc xs i d h))
    ∙ flat_map-append f (take i xs ++ get_or xs i d ∷ []) (drop (suc i) xs)
    ∙ ap (λ text. text ++ flat_map f (drop (suc i) xs))
    (flat_map-append f (take i xs) (get_or xs i d ∷ [])
    ∙ ap (λ text. flat_map f (take i xs) ++ text) (append-nil (f (get_or xs i d))))
    ∙ append_assoc (flat_map f (take i xs)) (f (get_or xs i d)) (flat_map f (drop (suc i) xs))

-- a call that writes the items of a list stops within one
pub writes_stopped_item : {A T E : Type 0} {a b c : Device} (f : A → List ℕ) (xs : List A) (i : ℕ) (d : A)
    (r : Result T E) → IsErr r → i < length xs → Wrote a b (flat_map f (take i xs)) → Stopped b c (f (get_or xs i d))
    → Writes a c (flat_map f xs) r
writes_stopped_item {A} {T} {E} {a} {b} {c} f xs i d r failed l h k =
    let P : List ℕ → Type 0 = λ text. Stopped a c text in
    MatchResult-from_err r (λ _. Wrote a c (flat_map f xs)) (λ _. Stopped a c (flat_map f xs)) failed
    (λ _. subst P (sym (items_split f xs i d l)) (stopped_then h (stopped_first (flat_map f (drop (suc i) xs)) k)))
