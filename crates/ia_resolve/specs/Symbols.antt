-- The symbols of a table.
use Rattle.std.specs.Prelude.{List, Option, ℤ}
use Rattle.std.specs.Map.{lookup}
use Rattle.ia_item.specs.declared.symbol.Symbol.{Symbol}
use Rattle.ia_item.specs.Names.{same_symbol}

-- the value that stands beside a symbol
abbrev pub known : List (Symbol × ℤ) → Symbol → Option ℤ
known symbols s = lookup (same_symbol s) symbols
