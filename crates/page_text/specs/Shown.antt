-- What is shown of a text from outside (docs/FORMATS.md, "Pages"), as a list of characters.
use Rattle.std.specs.Prelude.{ℕ, zero, suc, Bool, ◌||◌, if◌then◌else◌, List, [], ◌∷◌, ◌++◌, codes}
use Rattle.std.specs.Int.{is_in_range}
use Rattle.bstr.specs.Utf8.{lossy_chars}
use Rattle.text_out.specs.Number.{hex_digits}

-- a control character (Unicode Standard, 23.1) other than the tab, or DEL
abbrev pub is_control : ℕ → Bool
is_control c = is_in_range 0 8 c || (is_in_range 10 31 c || is_in_range 127 159 c)

-- a character that turns the direction of text or parts lines (Unicode Standard, 23.2 and 23.3)
abbrev pub is_turning : ℕ → Bool
is_turning c =
    is_in_range 0x61C 0x61C c
    || (is_in_range 0x200B 0x200F c || (is_in_range 0x2028 0x202E c || is_in_range 0x2060 0x206F c))

-- a character that leaves no mark: soft hyphen, byte order mark, annotations, tags (Unicode Standard, 23.2, 23.8, 23.9)
abbrev pub is_unseen : ℕ → Bool
is_unseen c =
    is_in_range 0xAD 0xAD c
    || (is_in_range 0xFEFF 0xFEFF c || (is_in_range 0xFFF0 0xFFFB c || is_in_range 0xE0000 0xE0FFF c))

-- a character that is shown by its number
abbrev pub is_hidden : ℕ → Bool
is_hidden c = is_control c || (is_turning c || is_unseen c)

-- \u{202e}
abbrev pub by_number : ℕ → List ℕ
by_number c = codes "\\u{" ++ (hex_digits c ++ codes "}")

abbrev pub shown_char : ℕ → List ℕ
shown_char c = if is_hidden c then by_number c else (c ∷ [])

abbrev pub dots_if : Bool → List ℕ
dots_if more = if more then codes ".." else []

-- at most so many characters, and two dots where there are more
unfoldable pub shown_chars : ℕ → List ℕ → List ℕ
shown_chars most [] = []
shown_chars zero (c ∷ cs) = codes ".."
shown_chars (suc most) (c ∷ cs) = shown_char c ++ shown_chars most cs

-- of bytes: U+FFFD stands for each piece that is no character of UTF-8
abbrev pub shown : ℕ → List ℕ → List ℕ
shown most text = shown_chars most (lossy_chars text)
