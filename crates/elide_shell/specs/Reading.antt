-- How a shell reads the text of a word (POSIX.1-2024, XCU 2.2). Nothing where the text is none of one word that is all
-- of plain bytes and of what is quoted by 2.2.1, 2.2.2 or, with these escapes alone, 2.2.4.
use Rattle.std.specs.Prelude.{◌≡◌, ℕ, ◌+◌, ◌-◌, ◌*◌, ◌==◌, ◌||◌, Bool, true, if◌then◌else◌, Option, Some, None}
use Rattle.std.specs.Prelude.{List, [], ◌∷◌, ◌++◌, option_map}
use Rattle.std.specs.Int.{is_in_range}
use Rattle.std.specs.List.{list_all}
use Rattle.elide_shell.specs.Shell.{is_plain}

-- where a byte of the text stands: outside of quotes; there behind a backslash (2.2.1); within '..' (2.2.2); behind a
-- $; within $'..' (2.2.4); there behind a backslash; behind that and one octal digit, or two, of this value
pub data Place : Type 0 where
  Outside : Place
  Alone : Place
  Single : Place
  Dollar : Place
  Within : Place
  Escape : Place
  Second : ℕ → Place
  Third : ℕ → Place

-- what a byte adds to the word, and where the next one stands
pub record Move : Type 0 where
  pub adds : List ℕ
  pub next : Place

abbrev pub to : Place → Option Move
to next = Some (record { adds = []; next = next })

abbrev pub adding : ℕ → Place → Option Move
adding byte next = Some (record { adds = byte ∷ []; next = next })

abbrev pub is_octal : ℕ → Bool
is_octal byte = is_in_range 48 55 byte

-- behind a backslash within $'..': a quote, a backslash, a letter, or the first of three digits
abbrev pub escape_move : ℕ → Option Move
escape_move byte =
    if (byte == 39) || (byte == 92) then adding byte Within
    else if byte == 116 then adding 9 Within
    else if byte == 110 then adding 10 Within
    else if byte == 114 then adding 13 Within
    else if is_octal byte then to (Second (byte - 48))
    else None

-- the last digit: a byte, and not 0, of which nothing is said
abbrev pub of_digits : ℕ → Option Move
of_digits value = if is_in_range 1 255 value then adding value Within else None

abbrev pub move : Place → ℕ → Option Move
move Outside byte =
    if byte == 39 then to Single else if byte == 92 then to Alone else if byte == 36 then to Dollar
    else if is_plain byte then adding byte Outside else None
move Alone byte = if byte == 10 then to Outside else adding byte Outside
move Single byte = if byte == 39 then to Outside else adding byte Single
move Dollar byte = if byte == 39 then to Within else None
move Within byte = if byte == 39 then to Outside else if byte == 92 then to Escape else adding byte Within
move Escape byte = escape_move byte
move (Second value) byte = if is_octal byte then to (Third (8 * value + (byte - 48))) else None
move (Third value) byte = if is_octal byte then of_digits (8 * value + (byte - 48)) else None

abbrev pub moved : Option Move → (Place → Option (List ℕ)) → Option (List ℕ)
moved None read = None
moved (Some move) read = option_map (λ word. move.adds ++ word) (read move.next)

-- the rest of the word
abbrev pub rest_of : Place → List ℕ → Option (List ℕ)
rest_of Outside [] = Some []
rest_of place [] = None
rest_of place (byte ∷ bytes) = moved (move place byte) (λ next. rest_of next bytes)

-- a text of no bytes is no word
unfoldable pub word_read : List ℕ → Option (List ℕ)
word_read [] = None
word_read (byte ∷ bytes) = rest_of Outside (byte ∷ bytes)

-- bytes that an argument or a path can have: all but 0
abbrev pub IsArgument : List ℕ → Type 0
IsArgument word = list_all (is_in_range 1 255) word ≡ true
