-- Which texts may ask for a part of memory, before a program is known (docs/FORMATS.md, "Options of the command line").
use Rattle.std.specs.Prelude.{◌≡◌, ℕ, ◌-◌, ◌==◌, ◌||◌, ◌&&◌, ◌⊎◌, Bool, false, not, if◌then◌else◌}
use Rattle.std.specs.Prelude.{List, [], ◌∷◌, ◌++◌, length, is_some, take, drop}
use Rattle.std.specs.Char.{is_ascii_digit, is_ascii_whitespace}
use Rattle.std.specs.List.{list_all, prefix_len, slice_split, suffix_len}
use Rattle.std.specs.Str.{NoCharPasses}
use Rattle.elide_program.specs.Settings.{word32}
use Rattle.elide_program.specs.Sums.{is_sign}

-- without the spaces in front, and without those around it
abbrev pub without_front : List ℕ → List ℕ
without_front bytes = drop (prefix_len is_ascii_whitespace bytes) bytes

abbrev pub trimmed : List ℕ → List ℕ
trimmed bytes =
    take (length (without_front bytes) - suffix_len is_ascii_whitespace (without_front bytes)) (without_front bytes)

-- a number below 2^32, or what may be a symbol's name: it does not begin with a digit
abbrev pub is_word : List ℕ → Bool
is_word [] = is_some (word32 [])
is_word (first ∷ others) = is_some (word32 (first ∷ others)) || not (is_ascii_digit first)

-- the same with spaces around it
abbrev pub is_term : List ℕ → Bool
is_term term = is_word (trimmed term)

-- what stands behind a sign in front, where there is one
abbrev pub behind_sign : List ℕ → List ℕ
behind_sign [] = []
behind_sign (first ∷ others) = if is_sign first then others else first ∷ others

-- terms with signs between them
abbrev pub is_sum_form : List ℕ → Bool
is_sum_form text = list_all is_term (slice_split is_sign (behind_sign (trimmed text)))

-- no character is a colon
abbrev pub HasNoColon : List ℕ → Type 0
HasNoColon text = NoCharPasses (λ c. c == 58) text

-- not `AT:BYTES`, with the form of a sum and a number: there is no colon, or what stands around one is neither
abbrev pub IsNoDump : List ℕ → Type 0
IsNoDump text = HasNoColon text
    ⊎ ((at : List ℕ) × (count : List ℕ) × (text ≡ at ++ 58 ∷ count)
    × ((is_sum_form at && is_some (word32 count)) ≡ false))
