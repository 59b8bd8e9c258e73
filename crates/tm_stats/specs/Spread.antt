-- The least, the middle and the greatest of the sizes of a place's transactions.
use Rattle.std.specs.Prelude.{◌≡◌, ◌==◌, ℕ, ◌+◌, ◌-◌, ◌/◌, ◌^◌, ◌<◌, List, Some, length, replicate, slice_get}
use Rattle.std.specs.Prelude.{IsPermutation}
use Rattle.std.specs.List.{flat_map, take_while}
use Rattle.std.specs.List.Sorted.{IsNonDecreasing}
use Rattle.tm_stats.specs.declared.spread.Spread.{Spread}
use Rattle.tm_stats.specs.declared.step.PlaceSize.{PlaceSize}

-- the rows of a place, of rows that begin with it
abbrev pub rows_of_place : ℕ → List (PlaceSize × ℕ) → List (PlaceSize × ℕ)
rows_of_place place rows = take_while (λ row. row.0.place == place) rows

-- what rows stand for: each size as often as its row says
abbrev pub sizes_of : List (PlaceSize × ℕ) → List ℕ
sizes_of rows = flat_map (λ row. replicate row.1 row.0.size) rows

-- some sizes, fewer than 2^64, in order
pub record AreInOrder (sizes : List ℕ) : Type 0 where
  pub some : 0 < length sizes
  pub few : length sizes < 2 ^ 64
  pub order : IsNonDecreasing sizes

-- the least, the middle and the greatest of sizes once they are sorted; of an even number of them, the middle is the
-- greater of the two
pub record IsSpread (sizes : List ℕ) (spread : Spread) : Type 0 where
  pub sorted : List ℕ
  pub same : IsPermutation sizes sorted
  pub order : IsNonDecreasing sorted
  pub count : spread.count ≡ length sorted
  pub least : slice_get sorted 0 ≡ Some spread.least
  pub median : slice_get sorted (length sorted / 2) ≡ Some spread.median
  pub most : slice_get sorted (length sorted - 1) ≡ Some spread.most

-- the spread of the rows of a place with which these rows begin, and the index behind them
pub record IsSpreadOf (rows : List (PlaceSize × ℕ)) (start first : ℕ) (found : Spread × ℕ) : Type 0 where
  pub place : found.0.place ≡ first
  pub spread : IsSpread (sizes_of (rows_of_place first rows)) found.0
  pub behind : found.1 ≡ start + length (rows_of_place first rows)
