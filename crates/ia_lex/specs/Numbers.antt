-- The numbers that words write.
use Rattle.std.specs.Prelude.{ℕ, ◌-◌, ◌^◌, Bool, ◌==◌, ◌&&◌, nat_lt, Option, Some, None, List, []}
use Rattle.std.specs.Prelude.{◌∷◌, if◌then◌else◌, take, drop, length, slice_index}
use Rattle.std.specs.List.{list_all}
use Rattle.std.specs.Char.{digit_value, is_ascii_digit}
use Rattle.std.specs.Str.Parse.{digits_value}

-- digits in that base, at least one
abbrev pub all_digits : ℕ → List ℕ → Bool
all_digits radix ds = nat_lt 0 (length ds) && list_all (λ b. nat_lt (digit_value b) radix) ds

-- a number, where it is at most 2^64 - 1
abbrev pub small : ℕ → Option ℕ
small n = if nat_lt n (2 ^ 64) then Some n else None

-- hex digits and h; binary digits and b
unfoldable pub suffixed : List ℕ → Option (Option ℕ)
suffixed w =
    if (slice_index w (length w - 1) == 104) && all_digits 16 (take (length w - 1) w) then Some (small
    (digits_value 16 (take (length w - 1) w)))
    else if (slice_index w (length w - 1) == 98) && all_digits 2 (take (length w - 1) w) then Some (small
    (digits_value 2 (take (length w - 1) w)))
    else None

-- 0x and hex digits
abbrev pub is_prefixed : List ℕ → Bool
is_prefixed w = nat_lt 2 (length w) && (slice_index w 0 == 48) && (slice_index w 1 == 120) && all_digits 16 (drop 2 w)

-- 0x and hex digits; decimal; hex digits and h; binary digits and b
unfoldable pub number_of : List ℕ → Option (Option ℕ)
number_of w =
    if is_prefixed w then Some (small (digits_value 16 (drop 2 w)))
    else if all_digits 10 w then Some (small (digits_value 10 w))
    else suffixed w

-- what a word writes that begins with a digit, where it is a number and at most 2^64 - 1
abbrev pub at_most_u64 : Option (Option ℕ) → Option ℕ
at_most_u64 None = None
at_most_u64 (Some n) = n

abbrev pub word_number : List ℕ → Option ℕ
word_number [] = None
word_number (b ∷ w) = if is_ascii_digit b then at_most_u64 (number_of (b ∷ w)) else None
