-- Rows of names (docs/FORMATS.md, "Names of symbols").
use Rattle.std.specs.Prelude.{ℕ, Bool}
use Rattle.std.specs.Int.{is_in_range}

-- a byte of a row of names that are shown: of a name, or a space between two
abbrev pub is_printable : ℕ → Bool
is_printable byte = is_in_range 32 126 byte
