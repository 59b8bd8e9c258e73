-- The numbers that words write: as in sources (docs/FORMATS.md, "Numbers of the command line"). No number above 2^64 -
-- 1 is in any range of a command, so that each such number is read as 2^64 - 1.
use Rattle.std.specs.Prelude.{ℕ, ◌-◌, ◌^◌, ◌==◌, ◌&&◌, ◌||◌, Bool, nat_lt, if◌then◌else◌, List, take, drop, length}
use Rattle.std.specs.Prelude.{slice_index, Option, Some, None}
use Rattle.std.specs.Char.{is_ascii_digit, is_ascii_hexdigit}
use Rattle.std.specs.List.{list_all}
use Rattle.ia_lex.specs.Numbers.{word_number}

-- 0x and hex digits
abbrev pub is_prefixed : List ℕ → Bool
is_prefixed word = nat_lt 2 (length word) && (slice_index word 0 == 48) && (slice_index word 1 == 120)
    && list_all is_ascii_hexdigit (drop 2 word)

-- hex digits and h; binary digits and b
abbrev pub is_suffixed : ℕ → List ℕ → Bool
is_suffixed last front = ((last == 104) && list_all is_ascii_hexdigit front)
    || ((last == 98) && list_all (λ b. (b == 48) || (b == 49)) front)

-- a number begins with a decimal digit
unfoldable pub is_number : List ℕ → Bool
is_number word =
    nat_lt 1 (length word) && is_ascii_digit (slice_index word 0)
    && (is_prefixed word || list_all is_ascii_digit word
    || is_suffixed (slice_index word (length word - 1)) (take (length word - 1) word))

abbrev pub number_or : Option ℕ → List ℕ → Option ℕ
number_or (Some n) word = Some n
number_or None word = if is_number word then Some (2 ^ 64 - 1) else None

abbrev pub number_in : List ℕ → Option ℕ
number_in word = number_or (word_number word) word
