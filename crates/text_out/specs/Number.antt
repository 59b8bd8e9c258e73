-- Numbers as they are printed.
use Rattle.std.specs.Prelude.{ℕ, ◌==◌, if◌then◌else◌, List, ◌++◌, codes, map}
use Rattle.std.specs.Char.{digit_char}
use Rattle.std.specs.Int.{w32, to_be_bytes}
use Rattle.std.specs.Int.Digits.{digits_of}
use Rattle.hex.specs.Hex.{encode_lower}

-- hex digits without leading zeros
abbrev pub hex_digits : ℕ → List ℕ
hex_digits n = if n == 0 then codes "0" else map digit_char (digits_of 16 n)

abbrev pub number : ℕ → List ℕ
number n = codes "0x" ++ hex_digits n

-- a doubleword as eight hex digits
abbrev pub eight_digits : ℕ → List ℕ
eight_digits n = encode_lower (to_be_bytes w32 n)
