-- What is found among the symbols of a program (docs/FORMATS.md, "Debugger", "Traces that tell
-- instructions", "Why a transaction aborted" and "Statistics").
use Rattle.std.specs.Prelude.{ℕ, ◌==◌, Bool, List, Option, Some, None, filter, find, map, max, nat_lt, reverse}
use Rattle.std.specs.List.{reduce}
use Rattle.std.specs.Option.{option_map}
use Rattle.std.specs.Str.{bytes_eq}
use Rattle.symbols.specs.declared.symbol.Symbol.{Symbol}

abbrev pub is_named : List ℕ → Symbol → Bool
is_named name symbol = bytes_eq symbol.name.items name

-- the value of the first symbol of this name
abbrev pub symbol_in : List Symbol → List ℕ → Option ℕ
symbol_in symbols name = option_map (λ (s : Symbol). s.value) (find (is_named name) symbols)

abbrev pub stands_at : ℕ → Symbol → Bool
stands_at at symbol = symbol.value == at

-- the greatest value of a symbol below an end
abbrev pub greatest_below : List Symbol → ℕ → Option ℕ
greatest_below symbols end =
    reduce max (filter (λ value. nat_lt value end) (map (λ (s : Symbol). s.value) symbols))

-- the first symbol there
abbrev pub found_at : List Symbol → Option ℕ → Option Symbol
found_at symbols None = None
found_at symbols (Some at) = find (stands_at at) symbols

-- the first symbol with the greatest value below an end, and the last
abbrev pub first_nearest : List Symbol → ℕ → Option Symbol
first_nearest symbols end = found_at symbols (greatest_below symbols end)

abbrev pub last_nearest : List Symbol → ℕ → Option Symbol
last_nearest symbols end = found_at (reverse symbols) (greatest_below symbols end)
