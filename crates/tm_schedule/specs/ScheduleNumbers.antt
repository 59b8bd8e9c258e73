-- The first form of a schedule's text: core numbers (docs/FORMATS.md, "Schedules").
use Rattle.std.specs.Prelude.{◌≡◌, ℕ, ◌+◌, ◌-◌, ◌*◌, ◌<◌, ◌&&◌, Bool, List, [], ◌∷◌, Option, Some, None, nat_lt}
use Rattle.std.specs.Prelude.{if◌then◌else◌}
use Rattle.std.specs.Char.{is_ascii_digit}

abbrev pub small : ℕ → Option ℕ
small n = if nat_lt n 256 then Some n else None

-- the number of three decimal digits, at most 255
abbrev pub three_digits : ℕ → ℕ → ℕ → Option ℕ
three_digits a b c =
    if is_ascii_digit a && is_ascii_digit b && is_ascii_digit c
    then small ((a - 48) * 100 + (b - 48) * 10 + (c - 48))
    else None

-- a core's number: one to three decimal digits
unfoldable pub core_number : List ℕ → Option ℕ
core_number (c ∷ []) = three_digits 48 48 c
core_number (b ∷ c ∷ []) = three_digits 48 b c
core_number (a ∷ b ∷ c ∷ []) = three_digits a b c
core_number _ = None

-- a text begins with the one digit of a core and a line end or a space
abbrev pub BeginsWithDigit : List ℕ → ℕ → Bool → List ℕ → Type 0
BeginsWithDigit text core ends rest =
    (core < 10) × (text ≡ (48 + core) ∷ (if ends then 10 else 32) ∷ rest)
