-- The addresses that words write by the symbols of a program (docs/FORMATS.md, "Debugger").
use Rattle.std.specs.Prelude.{ℕ, ◌+◌, ◌-◌, ◌^◌, ◌==◌, ◌||◌, Bool, if◌then◌else◌, List, length, min, nat_lt, Option}
use Rattle.std.specs.Prelude.{Some, None, drop, position, reverse, slice_index, take}
use Rattle.std.specs.Option.{option_or}
use Rattle.debug_command.specs.Numbers.{number_in}
use Rattle.symbols.specs.Symbols.{symbol_in}
use Rattle.symbols.specs.declared.symbol.Symbol.{Symbol}

-- + and -
abbrev pub is_sign : ℕ → Bool
is_sign byte = (byte == 43) || (byte == 45)

-- a value and a number behind a sign, in whole numbers. What is no address is read as 2^64 - 1, as too large a number
-- is
abbrev pub signed_sum : ℕ → ℕ → ℕ → ℕ
signed_sum value sign number =
    if sign == 43 then min (value + number) (2 ^ 64 - 1)
    else if nat_lt value number then 2 ^ 64 - 1
    else value - number

abbrev pub sum_by : Option ℕ → ℕ → Option ℕ → Option ℕ
sum_by None sign number = None
sum_by (Some value) sign None = None
sum_by (Some value) sign (Some number) = Some (signed_sum value sign number)

-- the word's last sign has so many bytes behind it: a symbol before it, and a number behind it
abbrev pub sum_at : Option ℕ → List Symbol → List ℕ → Option ℕ
sum_at None symbols word = None
sum_at (Some behind) symbols word =
    let at = length word - 1 - behind in
    sum_by (symbol_in symbols (take at word)) (slice_index word at) (number_in (drop (at + 1) word))

abbrev pub bytes_behind_sign : List ℕ → Option ℕ
bytes_behind_sign word = position is_sign (reverse word)

-- what writes a number is that number, else the first symbol of this name, else a sum
abbrev pub address_in : List Symbol → List ℕ → Option ℕ
address_in symbols word = option_or (number_in word)
    (option_or (symbol_in symbols word) (sum_at (bytes_behind_sign word) symbols word))
