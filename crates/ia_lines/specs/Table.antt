-- The line of an address by the rows of a table (DWARF version 5, section 6.2.2): of its sequence, the row with the
-- greatest address that is not above it.
use Rattle.std.specs.Prelude.{◌≡◌, ℕ, ◌+◌, ◌<◌, ◌≤◌, true, false, List, length, slice_index_or, Option, Some, None}
use Rattle.ia_lines.specs.declared.lines.Row.{Row}

-- the row of this number; behind the last stand rows that end sequences
abbrev pub row_at : List Row → ℕ → Row
row_at rows k = slice_index_or rows k (record { address = 0; unit = 0; file = 0; line = 0; ends = true })

-- the row of this number covers the address: it ends no sequence, so that the next is of the same one, and the address
-- lies from its own to that of the next
pub record Covers (rows : List Row) (address k : ℕ) : Type 0 where
  pub next : k + 1 < length rows
  pub goes_on : (row_at rows k).ends ≡ false
  pub above : (row_at rows k).address ≤ address
  pub below : address < (row_at rows (k + 1)).address

-- it is the first row that covers the address, and nothing where none does
abbrev pub IsFirstCover : List Row → ℕ → Option Row → Type 0
IsFirstCover rows address None = (k : ℕ) → ¬ Covers rows address k
IsFirstCover rows address (Some found) = (k : ℕ) × Covers rows address k × (found ≡ row_at rows k)
    × ((j : ℕ) → j < k → ¬ Covers rows address j)
