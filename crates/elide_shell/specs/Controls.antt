-- Control characters in a text of UTF-8, and the text with C's escapes in their place (docs/FORMATS.md, "Names of
-- files").
use Rattle.std.specs.Prelude.{ℕ, ◌+◌, ◌/◌, ◌%◌, ◌==◌, ◌&&◌, ◌||◌, Bool, false, if◌then◌else◌, Option, Some, None}
use Rattle.std.specs.Prelude.{List, [], ◌∷◌, ◌++◌}
use Rattle.std.specs.Char.{is_ascii_control}
use Rattle.std.specs.Int.{is_in_range}
use Rattle.elide_shell.specs.declared.escapes.Mark.{Mark}
use Rattle.elide_shell.specs.declared.escapes.Mark.TheVariants.{Backslash, DoubledQuote, Hash, Quote}

-- ---- control characters: below 32 and 127 (ASCII), and 128 to 159, C2 and a byte of 80 to 9F (ECMA-48, 5.3)

abbrev pub is_c1 : ℕ → ℕ → Bool
is_c1 first second = (first == 194) && is_in_range 128 159 second

-- whether one ends with this byte, behind that before
abbrev pub ends_control : ℕ → ℕ → Bool
ends_control before byte = is_ascii_control byte || is_c1 before byte

-- whether a text, behind this byte, has one
abbrev pub has_control : ℕ → List ℕ → Bool
has_control before [] = false
has_control before (byte ∷ bytes) = ends_control before byte || has_control byte bytes

-- ---- C's escapes

-- the letter for a tab, a line feed and a carriage return
abbrev pub letter_of : ℕ → Option ℕ
letter_of byte = if byte == 9 then Some 116 else if byte == 10 then Some 110 else if byte == 13 then Some 114 else None

abbrev pub octal_digit : ℕ → ℕ
octal_digit number = 48 + number % 8

-- behind the backslash: the letter, or three octal digits where there is none
abbrev pub behind_backslash : Option ℕ → ℕ → List ℕ
behind_backslash (Some letter) byte = letter ∷ []
behind_backslash None byte = octal_digit (byte / 64) ∷ octal_digit (byte / 8) ∷ octal_digit byte ∷ []

abbrev pub escape : ℕ → List ℕ
escape byte = 92 ∷ behind_backslash (letter_of byte) byte

-- the byte that a text is not to have by itself, and what stands before it
abbrev pub mark_byte : Mark → ℕ
mark_byte Backslash = 92
mark_byte Hash = 35
mark_byte Quote = 39
mark_byte DoubledQuote = 39

abbrev pub before_mark : Mark → ℕ
before_mark Backslash = 92
before_mark Hash = 92
before_mark Quote = 92
before_mark DoubledQuote = 39

-- a byte that is of a control character or not
abbrev pub escaped_byte : Mark → Bool → ℕ → List ℕ
escaped_byte mark is_hidden byte =
    if is_hidden then escape byte
    else if byte == 92 then 92 ∷ 92 ∷ []
    else if byte == mark_byte mark then before_mark mark ∷ byte ∷ []
    else byte ∷ []

-- ---- a text, each byte by that before it and that behind it, 0 where there is none

abbrev pub next_of : List ℕ → ℕ
next_of [] = 0
next_of (byte ∷ bytes) = byte

abbrev pub is_of_control : ℕ → ℕ → ℕ → Bool
is_of_control before byte next = ends_control before byte || is_c1 byte next

abbrev pub first_escaped : Mark → ℕ → List ℕ → List ℕ
first_escaped mark before [] = []
first_escaped mark before (byte ∷ bytes) = escaped_byte mark (is_of_control before byte (next_of bytes)) byte

abbrev pub escaped_behind : Mark → ℕ → List ℕ → List ℕ
escaped_behind mark before [] = []
escaped_behind mark before (byte ∷ bytes) =
    first_escaped mark before (byte ∷ bytes) ++ escaped_behind mark byte bytes

unfoldable pub escaped : Mark → List ℕ → List ℕ
escaped mark text = escaped_behind mark 0 text
