-- A word of a command, as a shell reads it (POSIX.1-2024, XCU 2.2.2 and 2.2.4). One with a control character stands in
-- $'..', where C's escapes do, so that what is printed drives no terminal and ends no line.
use Rattle.std.specs.Prelude.{ℕ, ◌==◌, ◌&&◌, ◌||◌, Bool, false, not, List, ◌∷◌, [], ◌++◌, codes, length, if◌then◌else◌}
use Rattle.std.specs.Char.{is_ascii_alphanumeric}
use Rattle.std.specs.List.{flat_map, list_all, list_any}
use Rattle.elide_shell.specs.Controls.{escaped, has_control}
use Rattle.elide_shell.specs.declared.escapes.Mark.TheVariants.{Quote}

-- a byte that stands for itself
abbrev pub is_plain : ℕ → Bool
is_plain byte = is_ascii_alphanumeric byte || list_any (λ b. b == byte) (codes "_./,:=@%+-")

abbrev pub is_plain_word : List ℕ → Bool
is_plain_word word = not (length word == 0) && list_all is_plain word

-- a byte between single quotes, of which a quote has to stand outside: '\''
abbrev pub quoted_byte : ℕ → List ℕ
quoted_byte byte = if byte == 39 then 39 ∷ 92 ∷ 39 ∷ 39 ∷ [] else byte ∷ []

abbrev pub quoted : List ℕ → List ℕ
quoted word = codes "'" ++ flat_map quoted_byte word ++ codes "'"

-- with escapes, of the quote too
abbrev pub quoted_with_escapes : List ℕ → List ℕ
quoted_with_escapes word = codes "$'" ++ escaped Quote word ++ codes "'"

-- a word, between quotes where a byte of it would not stand for itself
unfoldable pub shell_word : List ℕ → List ℕ
shell_word word =
    if is_plain_word word then word else if has_control 0 word then quoted_with_escapes word else quoted word

-- a path that begins as an option does is said from its folder on, so that no command takes it for one
abbrev pub begins_with_dash : List ℕ → Bool
begins_with_dash [] = false
begins_with_dash (byte ∷ bytes) = byte == 45

abbrev pub named_path : List ℕ → List ℕ
named_path path = if begins_with_dash path then codes "./" ++ path else path

unfoldable pub path_word : List ℕ → List ℕ
path_word path = if begins_with_dash path then codes "./" ++ shell_word path else shell_word path
