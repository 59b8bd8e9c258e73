-- Numbers in a packet: hex digits (gdb manual, appendix E.1, "Overview"), here of 32 bits.
use Rattle.std.specs.Prelude.{ℕ, ◌+◌, ◌*◌, ◌^◌, nat_lt, if◌then◌else◌, List, [], ◌∷◌, Option, Some, None}
use Rattle.std.specs.Option.{option_and_then}
use Rattle.hex.specs.Hex.{hex_digit_value}

-- at most 2^32 - 1
abbrev pub fitting : ℕ → Option ℕ
fitting number = if nat_lt number (2 ^ 32) then Some number else None

-- a number with one digit more
abbrev pub with_digit : ℕ → ℕ → Option ℕ
with_digit number byte = option_and_then (λ digit. fitting (16 * number + digit)) (hex_digit_value byte)

unfoldable pub with_digits : ℕ → List ℕ → Option ℕ
with_digits number [] = Some number
with_digits number (byte ∷ text) = option_and_then (λ next. with_digits next text) (with_digit number byte)

-- the number that at least one digit writes
abbrev pub number_in : List ℕ → Option ℕ
number_in [] = None
number_in (byte ∷ text) = with_digits 0 (byte ∷ text)
