-- The outcomes that are expected: lists of values, and the front of the line that `elide outcomes` prints for each
-- (docs/FORMATS.md, "Outcomes" and "Tests").
use Rattle.std.specs.Prelude.{ℕ, ◌^◌, ◌==◌, ◌&&◌, Bool, false, nat_eq, nat_lt, if◌then◌else◌, codes, List, [], ◌∷◌}
use Rattle.std.specs.Prelude.{◌++◌, length, map, Option, Some, None, option_map}
use Rattle.std.specs.Cmp.Lexicographic.{pointwise}
use Rattle.std.specs.List.{flat_map, list_all}
use Rattle.ia_lex.specs.Lines.{onto}
use Rattle.ia_lex.specs.Numbers.{word_number}
use Rattle.text_out.specs.Number.{eight_digits}
use Rattle.elide_expect.specs.declared.fronts.FrontReader.{FrontReader}
use Rattle.elide_expect.specs.Words.{texts, words_of}

-- the number that a word says, as on a command line, where it is below 2^32
abbrev pub below_32_bits : Option ℕ → Option ℕ
below_32_bits None = None
below_32_bits (Some value) = if nat_lt value (2 ^ 32) then Some value else None

abbrev pub value_in : List ℕ → Option ℕ
value_in word = below_32_bits (word_number word)

-- a value at the front of the first list
abbrev pub onto_lists : Option ℕ → Option (List (List ℕ)) → Option (List (List ℕ))
onto_lists None lists = None
onto_lists (Some value) lists = option_map (onto value) lists

-- the values that words say, in lists with `|` between
abbrev pub lists_of : List (List ℕ) → Option (List (List ℕ))
lists_of [] = Some ([] ∷ [])
lists_of (word ∷ words) = if pointwise nat_eq word (codes "|") then option_map (λ lists. [] ∷ lists) (lists_of words)
    else onto_lists (value_in word) (lists_of words)

-- the front of an outcome's line: each value in eight hex digits and a space
abbrev pub value_text : ℕ → List ℕ
value_text value = eight_digits value ++ codes " "

abbrev pub front_of : List ℕ → List ℕ
front_of values = flat_map value_text values

-- whether they have as many values each, one at least
abbrev pub are_alike : List (List ℕ) → Bool
are_alike [] = false
are_alike (front ∷ fronts) = nat_lt 0 (length front) && list_all (λ other. length other == length front) fronts

abbrev pub if_alike : Option (List (List ℕ)) → Option (List (List ℕ))
if_alike None = None
if_alike (Some fronts) = if are_alike fronts then Some fronts else None

abbrev pub fronts_in : Option (List (List ℕ)) → Option (List (List ℕ))
fronts_in None = None
fronts_in (Some words) = if_alike (option_map (λ lists. map front_of lists) (lists_of words))

-- the fronts that a text of lists says
abbrev pub fronts_of : List ℕ → Option (List (List ℕ))
fronts_of text = fronts_in (words_of text)

-- ---- what the code's values stand for: what is read of a front, and the lists that follow

abbrev pub onto_front : List ℕ → List (List ℕ) → List (List ℕ)
onto_front front [] = front ∷ []
onto_front front (values ∷ lists) = (front ++ front_of values) ∷ map front_of lists

abbrev pub fronts_with : FrontReader → List (List ℕ) → Option (List (List ℕ))
fronts_with reader words =
    option_map (λ lists. texts reader.fronts.items ++ onto_front reader.front.items lists) (lists_of words)
