-- Rows of sizes, the row at an index and those behind it, and the spread of the first place's.
use Rattle.std.proofs.Common.{◌≡◌, ◌≢◌, ◌∙◌, ℕ, ◌+◌, ◌-◌, ◌/◌, ◌<◌, ◌≤◌, suc, zero, cond}
use Rattle.std.proofs.Common.{List, [], ◌∷◌, ◌++◌, ap, sym, refl, take, drop, length, arith, Some, None}
use Rattle.std.proofs.Math.Seq.{drop-cons}
use Rattle.std.proofs.lemmas.Bool.{eq-eqb, ne_eqb}
use Rattle.std.proofs.lemmas.Grind.{common_steps, flat_map-append}
use Rattle.std.proofs.lemmas.List.{length-append, length-replicate}
use Rattle.std.proofs.lemmas.List.Sorted.{IsPermutation-refl}
use Rattle.std.proofs.lemmas.List.Sums.{take_while-cons}
use Rattle.std.proofs.lemmas.Option.{get_or_from_slice_get, slice_get-get_or, slice_get_within}
use Rattle.std.specs.Prelude.{replicate, slice_get, ◌==◌}
use Rattle.std.specs.List.{prefix_len}
use Rattle.tm_stats.specs.Spread.{AreInOrder, IsSpreadOf, rows_of_place, sizes_of}
use Rattle.tm_stats.specs.declared.spread.Spread.{Spread}
use Rattle.tm_stats.specs.declared.step.PlaceSize.{PlaceSize}

-- what stands from an index on begins with the one there
pub begins_at : {X : Type 0} (xs : List X) (i : ℕ) (x : X) → slice_get xs i ≡ Some x → drop i xs ≡ x ∷ drop (i + 1) xs
begins_at xs i x h =
    let next : suc i ≡ i + 1 = omega arith in
    drop-cons xs i x (slice_get_within xs i x h) ∙ ap (λ y. y ∷ drop (suc i) xs) (get_or_from_slice_get xs i x x h)
    ∙ ap (λ n. x ∷ drop n xs) next

-- nothing stands behind the end
pub ends_at : {X : Type 0} (xs : List X) (i : ℕ) → length xs ≤ i → drop i xs ≡ []
ends_at xs i h = grind (arith, common_steps)

-- a row of the place, and one of another
pub same_place : (place : ℕ) (row : PlaceSize × ℕ) (rows : List (PlaceSize × ℕ)) → row.0.place ≡ place
    → rows_of_place place (row ∷ rows) ≡ row ∷ rows_of_place place rows
same_place place row rows h =
    take_while-cons (λ (r : PlaceSize × ℕ). r.0.place == place) row rows
    ∙ ap (λ b. cond b (row ∷ rows_of_place place rows) []) (eq-eqb row.0.place place h)

pub other_place : (place : ℕ) (row : PlaceSize × ℕ) (rows : List (PlaceSize × ℕ)) → row.0.place ≢ place
    → rows_of_place place (row ∷ rows) ≡ []
other_place place row rows h =
    take_while-cons (λ (r : PlaceSize × ℕ). r.0.place == place) row rows
    ∙ ap (λ b. cond b (row ∷ rows_of_place place rows) []) (ne_eqb row.0.place place h)

-- how many sizes there are with one row more
pub one_row_more : (row : PlaceSize × ℕ) (rows : List (PlaceSize × ℕ))
    → length (sizes_of (row ∷ rows)) ≡ row.1 + length (sizes_of rows)
one_row_more row rows =
    length-append (replicate row.1 row.0.size) (sizes_of rows)
    ∙ ap (λ n. n + length (sizes_of rows)) (length-replicate row.1 row.0.size)

-- a size among those of the first row, and one behind them
among : (n k x : ℕ) (ys : List ℕ) → k < n → slice_get (replicate n x ++ ys) k ≡ Some x
among zero k x ys h = absurd (omega (arith, h))
among (suc n) zero x ys h = refl
among (suc n) (suc k) x ys h = among n k x ys (omega (arith, h))

past : (n k x : ℕ) (ys : List ℕ) → n ≤ k → slice_get (replicate n x ++ ys) k ≡ slice_get ys (k - n)
past zero k x ys h = let same : k ≡ k - zero = omega arith in ap (λ i. slice_get ys i) same
past (suc n) zero x ys h = absurd (omega (arith, h))
past (suc n) (suc k) x ys h =
    let same : k - n ≡ suc k - suc n = omega arith in
    past n k x ys (omega (arith, h)) ∙ ap (λ i. slice_get ys i) same

pub in_row : (row : PlaceSize × ℕ) (rows : List (PlaceSize × ℕ)) (k : ℕ) → k < row.1
    → slice_get (sizes_of (row ∷ rows)) k ≡ Some row.0.size
in_row row rows k h = among row.1 k row.0.size (sizes_of rows) h

pub behind_row : (row : PlaceSize × ℕ) (rows : List (PlaceSize × ℕ)) (k : ℕ) → row.1 ≤ k
    → slice_get (sizes_of (row ∷ rows)) k ≡ slice_get (sizes_of rows) (k - row.1)
behind_row row rows k h = past row.1 k row.0.size (sizes_of rows) h

-- the rows from an index on: with one of the place there, with one of another place, and behind the last
pub rows_more : (place : ℕ) (rows : List (PlaceSize × ℕ)) (i : ℕ) (row : PlaceSize × ℕ) → slice_get rows i ≡ Some row
    → row.0.place ≡ place → rows_of_place place (drop i rows) ≡ row ∷ rows_of_place place (drop (i + 1) rows)
rows_more place rows i row at h =
    ap (λ l. rows_of_place place l) (begins_at rows i row at) ∙ same_place place row (drop (i + 1) rows) h

pub rows_stop : (place : ℕ) (rows : List (PlaceSize × ℕ)) (i : ℕ) (row : PlaceSize × ℕ) → slice_get rows i ≡ Some row
    → row.0.place ≢ place → rows_of_place place (drop i rows) ≡ []
rows_stop place rows i row at h =
    ap (λ l. rows_of_place place l) (begins_at rows i row at) ∙ other_place place row (drop (i + 1) rows) h

pub rows_end : (place : ℕ) (rows : List (PlaceSize × ℕ)) (i : ℕ) → length rows ≤ i
    → rows_of_place place (drop i rows) ≡ []
rows_end place rows i h = ap (λ l. rows_of_place place l) (ends_at rows i h)

-- how many sizes there are from an index on
pub sizes_more : (place : ℕ) (rows : List (PlaceSize × ℕ)) (i : ℕ) (row : PlaceSize × ℕ) → slice_get rows i ≡ Some row
    → row.0.place ≡ place → length (sizes_of (rows_of_place place (drop i rows)))
    ≡ row.1 + length (sizes_of (rows_of_place place (drop (i + 1) rows)))
sizes_more place rows i row at h =
    ap (λ l. length (sizes_of l)) (rows_more place rows i row at h)
    ∙ one_row_more row (rows_of_place place (drop (i + 1) rows))

-- the size at a rank among those from an index on
pub size_here : (rows : List (PlaceSize × ℕ)) (i k : ℕ) (row : PlaceSize × ℕ) → slice_get rows i ≡ Some row → k < row.1
    → slice_get (sizes_of (drop i rows)) k ≡ Some row.0.size
size_here rows i k row at h =
    ap (λ l. slice_get (sizes_of l) k) (begins_at rows i row at) ∙ in_row row (drop (i + 1) rows) k h

pub size_behind : (rows : List (PlaceSize × ℕ)) (i k : ℕ) (row : PlaceSize × ℕ)
    → slice_get rows i ≡ Some row → row.1 ≤ k
    → slice_get (sizes_of (drop i rows)) k ≡ slice_get (sizes_of (drop (i + 1) rows)) (k - row.1)
size_behind rows i k row at h =
    ap (λ l. slice_get (sizes_of l) k) (begins_at rows i row at) ∙ behind_row row (drop (i + 1) rows) k h

pub size_end : (rows : List (PlaceSize × ℕ)) (i k : ℕ) → length rows ≤ i → slice_get (sizes_of (drop i rows)) k ≡ None
size_end rows i k h = ap (λ l. slice_get (sizes_of l) k) (ends_at rows i h)

-- the sizes of the first place's rows stand first
front : {X : Type 0} (xs ys : List X) (k : ℕ) → k < length xs → slice_get (xs ++ ys) k ≡ slice_get xs k
front [] ys k h = absurd (omega (arith, h))
front (x ∷ xs) ys zero h = refl
front (x ∷ xs) ys (suc k) h = front xs ys k (omega (arith, h))

split : {X : Type 0} (n : ℕ) (xs : List X) → xs ≡ take n xs ++ drop n xs
split n xs = grind (arith, common_steps)

held : (place : ℕ) (rows : List (PlaceSize × ℕ)) (k : ℕ) → k < length (sizes_of (rows_of_place place rows))
    → slice_get (sizes_of rows) k ≡ slice_get (sizes_of (rows_of_place place rows)) k
held place rows k h =
    let n = prefix_len (λ (r : PlaceSize × ℕ). r.0.place == place) rows in
    ap (λ l. slice_get (sizes_of l) k) (split n rows)
    ∙ ap (λ l. slice_get l k)
    (flat_map-append (λ (r : PlaceSize × ℕ). replicate r.1 r.0.size) (take n rows) (drop n rows))
    ∙ front (sizes_of (take n rows)) (sizes_of (drop n rows)) k h

-- so there is one at each of their ranks
pub is_there : (place : ℕ) (rows : List (PlaceSize × ℕ)) (k : ℕ) → k < length (sizes_of (rows_of_place place rows))
    → None ≡ slice_get (sizes_of rows) k → ⊥
is_there place rows k h none =
    let some = slice_get-get_or (sizes_of (rows_of_place place rows)) k 0 h in
    let same = held place rows k h in
    cc

pub spread_is : (place start behind count : ℕ) (rows : List (PlaceSize × ℕ)) (spread : Spread)
    → AreInOrder (sizes_of (rows_of_place place rows))
    → count ≡ length (sizes_of (rows_of_place place rows)) → behind ≡ start + length (rows_of_place place rows)
    → spread.place ≡ place → spread.count ≡ count → Some spread.least ≡ slice_get (sizes_of rows) 0
    → Some spread.median ≡ slice_get (sizes_of rows) (count / 2)
    → Some spread.most ≡ slice_get (sizes_of rows) (count - 1)
    → IsSpreadOf rows start place (spread, behind)
spread_is place start behind count rows spread order counted ends at many least median most =
    let sizes = sizes_of (rows_of_place place rows) in
    let none_less : 0 < length sizes = order.some in
    let half : length sizes / 2 < length sizes = omega arith in
    let last : length sizes - 1 < length sizes = omega arith in
    record {
      place = at;
      spread = record {
        sorted = sizes;
        same = IsPermutation-refl sizes;
        order = order.order;
        count = many ∙ counted;
        least = sym (held place rows 0 none_less) ∙ sym least;
        median = sym (held place rows (length sizes / 2) half)
            ∙ ap (λ n. slice_get (sizes_of rows) (n / 2)) (sym counted) ∙ sym median;
        most = sym (held place rows (length sizes - 1) last)
            ∙ ap (λ n. slice_get (sizes_of rows) (n - 1)) (sym counted) ∙ sym most;
      };
      behind = ends;
    }
