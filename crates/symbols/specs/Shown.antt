-- How the name of a symbol is shown (docs/FORMATS.md, "Names of symbols"): no control byte reaches a terminal, and no
-- space parts a name.
use Rattle.std.specs.Prelude.{ℕ, Bool, not, ◌==◌, ◌&&◌, ◌+◌, ◌/◌, ◌%◌, if◌then◌else◌, Option, Some, None}
use Rattle.std.specs.Prelude.{List, [], ◌∷◌, flat_map, Vec}
use Rattle.std.specs.Char.{is_ascii_graphic}

-- a byte that stands for itself: one of ! to ~, but no backslash
abbrev pub is_plain : ℕ → Bool
is_plain byte = is_ascii_graphic byte && not (byte == 92)

-- the letter that C writes behind a backslash for a tab, a line feed, a carriage return and the backslash
abbrev pub letter_of : ℕ → Option ℕ
letter_of byte =
    if byte == 9 then Some 116 else if byte == 10 then Some 110 else if byte == 13 then Some 114
    else if byte == 92 then Some 92 else None

abbrev pub octal_digit : ℕ → ℕ
octal_digit number = 48 + number % 8

-- the three octal digits of a byte
abbrev pub octal : ℕ → List ℕ
octal byte = octal_digit (byte / 64) ∷ octal_digit (byte / 8) ∷ octal_digit byte ∷ []

-- what stands behind the backslash: the letter, or the digits where there is none
abbrev pub behind_backslash : Option ℕ → ℕ → List ℕ
behind_backslash (Some letter) byte = letter ∷ []
behind_backslash None byte = octal byte

abbrev pub shown_byte : ℕ → List ℕ
shown_byte byte = if is_plain byte then byte ∷ [] else 92 ∷ behind_backslash (letter_of byte) byte

abbrev pub shown_name : List ℕ → List ℕ
shown_name name = flat_map shown_byte name

-- what is shown of a name with another text beside it, or none
abbrev pub shown_of : {Z : Type 0} → List ℕ → Option (Vec ℕ Z) → List ℕ
shown_of name None = name
shown_of name (Some text) = text.items
