-- How characters stand in a page (docs/FORMATS.md, "Pages"): one that is not plain stands by its number, in a string of
-- JSON as RFC 8259, section 7 has it, in markup as a character reference (HTML, 13.1.4).
use Rattle.std.specs.Prelude.{ℕ, ◌+◌, ◌-◌, ◌/◌, ◌%◌, Bool, not, ◌&&◌, ◌==◌, nat_lt, if◌then◌else◌, List, [], ◌∷◌, ◌++◌}
use Rattle.std.specs.Prelude.{codes, flat_map}
use Rattle.std.specs.Char.{digit_char}
use Rattle.std.specs.Int.{is_in_range}
use Rattle.hex.specs.Hex.{encode_lower}
use Rattle.text_out.specs.Number.{hex_digits}
use Rattle.page_text.specs.declared.escape.Escape.{Escape}
use Rattle.page_text.specs.declared.escape.Escape.TheVariants.{Json, Markup}
use Rattle.page_text.specs.Shown.{shown}

-- a byte that may stand in a page's data: printable ASCII, and none of & < >
abbrev pub is_safe : ℕ → Bool
is_safe c = is_in_range 32 126 c && (not (c == 38) && (not (c == 60) && not (c == 62)))

-- a byte that may stand in a title: printable ASCII, and none of < >; an & begins a reference there
abbrev pub is_unmarked : ℕ → Bool
is_unmarked c = is_in_range 32 126 c && (not (c == 60) && not (c == 62))

-- a character that stands for itself: a safe one other than the quote and the backslash
abbrev pub is_plain : ℕ → Bool
is_plain c = is_safe c && (not (c == 34) && not (c == 92))

-- \u and four hex digits
abbrev pub unit_text : ℕ → List ℕ
unit_text u =
    92 ∷ 117 ∷ digit_char (u / 4096) ∷ digit_char (u / 256 % 16) ∷ digit_char (u / 16 % 16) ∷ digit_char (u % 16) ∷ []

-- one unit of UTF-16, or two from U+10000 on
abbrev pub units_text : ℕ → List ℕ
units_text c =
    if nat_lt c 0x10000 then unit_text c
    else unit_text (0xD800 + (c - 0x10000) / 1024) ++ unit_text (0xDC00 + (c - 0x10000) % 1024)

-- &#x3c;
abbrev pub reference_text : ℕ → List ℕ
reference_text c = codes "&#x" ++ (hex_digits c ++ codes ";")

abbrev pub number_text : Escape → ℕ → List ℕ
number_text Json c = units_text c
number_text Markup c = reference_text c

unfoldable pub escaped_char : Escape → ℕ → List ℕ
escaped_char escape c = if is_plain c then (c ∷ []) else number_text escape c

abbrev pub escaped : Escape → List ℕ → List ℕ
escaped escape cs = flat_map (escaped_char escape) cs

-- a string of JSON, with its quotes
abbrev pub string_text : List ℕ → ℕ → List ℕ
string_text text most = 34 ∷ (escaped Json (shown most text) ++ 34 ∷ [])

-- text between two tags
abbrev pub title_text : List ℕ → ℕ → List ℕ
title_text text most = escaped Markup (shown most text)

-- bytes in hex, as a string of JSON
abbrev pub hex_text : List ℕ → List ℕ
hex_text bytes = 34 ∷ (encode_lower bytes ++ 34 ∷ [])
