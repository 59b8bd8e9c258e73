-- What a shell reads of a word that was written.
use Rattle.std.proofs.Common.{◌≡◌, ℕ, ◌+◌, ◌*◌, ◌/◌, ◌%◌, ◌<◌, Bool, true, false, not, List, [], ◌∷◌, ◌++◌, length}
use Rattle.std.proofs.Common.{Option, Some, None, refl, sym, ◌∙◌, ap, append_assoc, arith}
use Rattle.std.specs.Prelude.{if◌then◌else◌, ◌==◌, option_map, codes}
use Rattle.std.specs.Int.{is_in_range}
use Rattle.std.specs.List.{flat_map, list_all}
use Rattle.std.proofs.lemmas.Bool.{and_parts, eqb-true, not-true}
use Rattle.std.proofs.lemmas.Bool.Decides.{nat_tests}
use Rattle.elide_shell.specs.Controls.{behind_backslash, escape, escaped, escaped_behind, escaped_byte, has_control}
use Rattle.elide_shell.specs.Controls.{is_of_control, next_of, octal_digit}
use Rattle.elide_shell.specs.declared.escapes.Mark.TheVariants.{Quote}
use Rattle.elide_shell.specs.Reading.{Alone, Dollar, Escape, IsArgument, Move, Outside, Place, Second, Single, Third}
use Rattle.elide_shell.specs.Reading.{Within, adding, move, moved, rest_of, to, word_read}
use Rattle.elide_shell.specs.Shell.{begins_with_dash, is_plain, is_plain_word, named_path, path_word, quoted}
use Rattle.elide_shell.specs.Shell.{quoted_byte, quoted_with_escapes, shell_word}

-- what a place reads of a byte, by its move
one : (place : Place) (byte : ℕ) (bytes : List ℕ) (m : Option Move) → move place byte ≡ m
    → rest_of place (byte ∷ bytes) ≡ moved m (λ next. rest_of next bytes)
one Outside byte bytes m h = ap (λ n. moved n (λ next. rest_of next bytes)) h
one Alone byte bytes m h = ap (λ n. moved n (λ next. rest_of next bytes)) h
one Single byte bytes m h = ap (λ n. moved n (λ next. rest_of next bytes)) h
one Dollar byte bytes m h = ap (λ n. moved n (λ next. rest_of next bytes)) h
one Within byte bytes m h = ap (λ n. moved n (λ next. rest_of next bytes)) h
one Escape byte bytes m h = ap (λ n. moved n (λ next. rest_of next bytes)) h
one (Second value) byte bytes m h = ap (λ n. moved n (λ next. rest_of next bytes)) h
one (Third value) byte bytes m h = ap (λ n. moved n (λ next. rest_of next bytes)) h

-- a byte to another place adds nothing
passes : (rest : Option (List ℕ)) → option_map (λ word. [] ++ word) rest ≡ rest
passes None = refl
passes (Some word) = refl

-- ---- plain words

is_other : (byte n : ℕ) → is_plain byte ≡ true → is_plain n ≡ false → (byte == n) ≡ false
is_other byte n h other = of (byte == n) refl where
  of : (same : Bool) → (byte == n) ≡ same → same ≡ false
  of false e = refl
  of true e = sym h ∙ ap is_plain (eqb-true byte n e) ∙ other

plain_moves : (byte : ℕ) → is_plain byte ≡ true → move Outside byte ≡ adding byte Outside
plain_moves byte h = rw (is_other byte 39 h refl, is_other byte 92 h refl, is_other byte 36 h refl, h) refl

plain_read : (word : List ℕ) → list_all is_plain word ≡ true → rest_of Outside word ≡ Some word
plain_read [] h = refl
plain_read (byte ∷ bytes) h =
    let parts = and_parts (is_plain byte) (list_all is_plain bytes) h in
    one Outside byte bytes (adding byte Outside) (plain_moves byte parts.0)
    ∙ ap (λ rest. option_map (λ word. byte ∷ word) rest) (plain_read bytes parts.1)

-- ---- words between single quotes

quoted_byte_read : (byte : ℕ) (tail word : List ℕ) → rest_of Single tail ≡ Some word
    → rest_of Single (quoted_byte byte ++ tail) ≡ Some (byte ∷ word)
quoted_byte_read byte tail word h = of (byte == 39) refl where
  of : (quote : Bool) → (byte == 39) ≡ quote
      → rest_of Single ((if quote then 39 ∷ 92 ∷ 39 ∷ 39 ∷ [] else byte ∷ []) ++ tail) ≡ Some (byte ∷ word)
  of true e = rw (h, eqb-true byte 39 e) refl
  of false e = rw (e, h) refl

pub quoted_read : (word : List ℕ) → rest_of Single (flat_map quoted_byte word ++ 39 ∷ []) ≡ Some word
quoted_read [] = refl
quoted_read (byte ∷ bytes) =
    ap (rest_of Single) (append_assoc (quoted_byte byte) (flat_map quoted_byte bytes) (39 ∷ []))
    ∙ quoted_byte_read byte (flat_map quoted_byte bytes ++ 39 ∷ []) bytes (quoted_read bytes)

-- ---- words with escapes

escape_first : (n : ℕ) → n < 8 → move Escape (48 + n) ≡ to (Second n)
escape_first n low = grind (arith, nat_tests)

second_digit : (value n : ℕ) → n < 8 → move (Second value) (48 + n) ≡ to (Third (8 * value + n))
second_digit value n low = grind (arith, nat_tests)

third_digit : (value n byte : ℕ) → n < 8 → is_in_range 1 255 byte ≡ true → 8 * value + n ≡ byte
    → move (Third value) (48 + n) ≡ adding byte Within
third_digit value n byte low is same = grind (arith, nat_tests)

-- the digits of a byte, the first of which is no more than 3
digits_are : (byte : ℕ) → is_in_range 1 255 byte ≡ true
    → 8 * (8 * (byte / 64 % 8) + byte / 8 % 8) + byte % 8 ≡ byte
digits_are byte h = grind (arith, nat_tests)

abbrev with_byte : ℕ → Option (List ℕ) → Option (List ℕ)
with_byte byte rest = option_map (λ word. byte ∷ word) rest

octal_read : (byte : ℕ) (tail : List ℕ) → is_in_range 1 255 byte ≡ true
    → rest_of Within (92 ∷ behind_backslash None byte ++ tail) ≡ with_byte byte (rest_of Within tail)
octal_read byte tail h =
    let a = byte / 64 % 8 in
    let b = byte / 8 % 8 in
    let d = byte % 8 in
    passes (rest_of Escape (octal_digit (byte / 64) ∷ octal_digit (byte / 8) ∷ octal_digit byte ∷ tail))
    ∙ one Escape (48 + a) (octal_digit (byte / 8) ∷ octal_digit byte ∷ tail) (to (Second a))
    (escape_first a (omega arith))
    ∙ passes (rest_of (Second a) (octal_digit (byte / 8) ∷ octal_digit byte ∷ tail))
    ∙ one (Second a) (48 + b) (octal_digit byte ∷ tail) (to (Third (8 * a + b))) (second_digit a b (omega arith))
    ∙ passes (rest_of (Third (8 * a + b)) (octal_digit byte ∷ tail))
    ∙ one (Third (8 * a + b)) (48 + d) tail (adding byte Within)
    (third_digit (8 * a + b) d byte (omega arith) h (digits_are byte h))

escape_read : (byte : ℕ) (tail : List ℕ) → is_in_range 1 255 byte ≡ true
    → rest_of Within (escape byte ++ tail) ≡ with_byte byte (rest_of Within tail)
escape_read byte tail h = of (byte == 9) (byte == 10) (byte == 13) refl refl refl where
  of : (tab feed back : Bool) → (byte == 9) ≡ tab → (byte == 10) ≡ feed → (byte == 13) ≡ back
      → rest_of Within
      (92 ∷ behind_backslash (if tab then Some 116 else if feed then Some 110 else if back then Some 114
      else None) byte ++ tail) ≡ with_byte byte (rest_of Within tail)
  of true feed back e f g = rw (eqb-true byte 9 e) (passes (with_byte 9 (rest_of Within tail)))
  of false true back e f g = rw (eqb-true byte 10 f) (passes (with_byte 10 (rest_of Within tail)))
  of false false true e f g = rw (eqb-true byte 13 g) (passes (with_byte 13 (rest_of Within tail)))
  of false false false e f g = octal_read byte tail h

quote_read : (byte : ℕ) (tail : List ℕ) → (byte == 39) ≡ true
    → rest_of Within (92 ∷ byte ∷ tail) ≡ with_byte byte (rest_of Within tail)
quote_read byte tail h = rw (eqb-true byte 39 h) (passes (with_byte 39 (rest_of Within tail)))

slash_read : (byte : ℕ) (tail : List ℕ) → (byte == 92) ≡ true
    → rest_of Within (92 ∷ 92 ∷ tail) ≡ with_byte byte (rest_of Within tail)
slash_read byte tail h = rw (eqb-true byte 92 h) (passes (with_byte 92 (rest_of Within tail)))

byte_read : (hidden : Bool) (byte : ℕ) (tail : List ℕ) → is_in_range 1 255 byte ≡ true
    → rest_of Within (escaped_byte Quote hidden byte ++ tail) ≡ with_byte byte (rest_of Within tail)
byte_read true byte tail h = escape_read byte tail h
byte_read false byte tail h = of (byte == 92) (byte == 39) refl refl where
  of : (slash quote : Bool) → (byte == 92) ≡ slash → (byte == 39) ≡ quote
      → rest_of Within ((if slash then 92 ∷ 92 ∷ [] else if quote then 92 ∷ byte ∷ [] else byte ∷ []) ++ tail)
      ≡ with_byte byte (rest_of Within tail)
  of true quote e f = slash_read byte tail e
  of false true e f = quote_read byte tail f
  of false false e f = one Within byte tail (adding byte Within) (rw (e, f) refl)

escaped_read : (before : ℕ) (word : List ℕ) → IsArgument word
    → rest_of Within (escaped_behind Quote before word ++ 39 ∷ []) ≡ Some word
escaped_read before [] h = refl
escaped_read before (byte ∷ bytes) h =
    let parts = and_parts (is_in_range 1 255 byte) (list_all (is_in_range 1 255) bytes) h in
    let hidden = is_of_control before byte (next_of bytes) in
    ap (rest_of Within) (append_assoc (escaped_byte Quote hidden byte) (escaped_behind Quote byte bytes) (39 ∷ []))
    ∙ byte_read hidden byte (escaped_behind Quote byte bytes ++ 39 ∷ []) parts.0
    ∙ ap (with_byte byte) (escaped_read byte bytes parts.1)

-- ---- words

-- a text that is read from outside on, and is not empty
begun : (text word : List ℕ) → rest_of Outside text ≡ Some word → (length text == 0) ≡ false
    → word_read text ≡ Some word
unfolding word_read
begun [] word h some = absurd cc
begun (byte ∷ bytes) word h some = h

pub word_reads : (word : List ℕ) → IsArgument word → word_read (shell_word word) ≡ Some word
unfolding shell_word word_read escaped
word_reads word h = of (is_plain_word word) (has_control 0 word) refl where
  of : (plain controls : Bool) → is_plain_word word ≡ plain
      → word_read (if plain then word else if controls then quoted_with_escapes word else quoted word) ≡ Some word
  of true controls e =
      let parts = and_parts (not (length word == 0)) (list_all is_plain word) e in
      begun word word (plain_read word parts.1) (not-true (length word == 0) parts.0)
  of false true e =
      let text = rest_of Within (escaped_behind Quote 0 word ++ 39 ∷ []) in
      passes (option_map (λ w. [] ++ w) text) ∙ passes text ∙ escaped_read 0 word h
  of false false e = passes (rest_of Single (flat_map quoted_byte word ++ 39 ∷ [])) ∙ quoted_read word

outside : (text word : List ℕ) → word_read text ≡ Some word → rest_of Outside text ≡ Some word
unfolding word_read
outside [] word h = absurd cc
outside (byte ∷ bytes) word h = h

pub path_reads : (path : List ℕ) → IsArgument path → word_read (path_word path) ≡ Some (named_path path)
unfolding path_word word_read
path_reads path h = of (begins_with_dash path) where
  of : (dash : Bool) → word_read (if dash then codes "./" ++ shell_word path else shell_word path)
      ≡ Some (if dash then codes "./" ++ path else path)
  of true = ap (λ rest. option_map (λ w. 46 ∷ w) (option_map (λ w. 47 ∷ w) rest))
      (outside (shell_word path) path (word_reads path h))
  of false = word_reads path h
