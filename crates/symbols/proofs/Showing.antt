-- What is shown of a name.
use Rattle.std.proofs.Common.{◌≡◌, ℕ, ◌+◌, ◌/◌, Bool, true, false, not, ◌&&◌, List, [], ◌∷◌, ◌++◌}
use Rattle.std.proofs.Common.{Option, Some, None, IfSome, refl, ◌∙◌, ap, arith}
use Rattle.std.specs.Prelude.{if◌then◌else◌, ◌==◌}
use Rattle.std.specs.List.{list_all}
use Rattle.std.specs.Char.{is_ascii_graphic}
use Rattle.std.proofs.lemmas.Bool.{and_from, and_parts}
use Rattle.std.proofs.lemmas.Bool.Decides.{nat_tests}
use Rattle.std.proofs.lemmas.List.Folds.{list_all-append}
use Rattle.symbols.specs.Shown.{behind_backslash, is_plain, letter_of, octal, octal_digit, shown_byte, shown_name}

digit_is_graphic : (n : ℕ) → is_ascii_graphic (octal_digit n) ≡ true
digit_is_graphic n = grind (arith, nat_tests)

octal_is_graphic : (byte : ℕ) → list_all is_ascii_graphic (octal byte) ≡ true
octal_is_graphic byte =
    let digit : ℕ → Bool = λ n. is_ascii_graphic (octal_digit n) in
    and_from (digit (byte / 64)) (digit (byte / 8) && (digit byte && true)) (digit_is_graphic (byte / 64))
    (and_from (digit (byte / 8)) (digit byte && true) (digit_is_graphic (byte / 8))
    (and_from (digit byte) true (digit_is_graphic byte) refl))

letter_is_graphic : (byte : ℕ) → IfSome (letter_of byte) (λ letter. is_ascii_graphic letter ≡ true)
letter_is_graphic byte = of (byte == 9) (byte == 10) (byte == 13) (byte == 92) where
  of : (tab feed back slash : Bool) → IfSome (if tab then Some 116 else if feed then Some 110 else if back then Some 114
      else if slash then Some 92 else None) (λ letter. is_ascii_graphic letter ≡ true)
  of true feed back slash = refl
  of false true back slash = refl
  of false false true slash = refl
  of false false false true = refl
  of false false false false = tt

behind_is_graphic : (letter : Option ℕ) (byte : ℕ) → IfSome letter (λ l. is_ascii_graphic l ≡ true)
    → list_all is_ascii_graphic (behind_backslash letter byte) ≡ true
behind_is_graphic (Some letter) byte h = and_from (is_ascii_graphic letter) true h refl
behind_is_graphic None byte h = octal_is_graphic byte

byte_is_graphic : (byte : ℕ) → list_all is_ascii_graphic (shown_byte byte) ≡ true
byte_is_graphic byte = of (is_plain byte) refl where
  of : (plain : Bool) → is_plain byte ≡ plain
      → list_all is_ascii_graphic (if plain then byte ∷ [] else 92 ∷ behind_backslash (letter_of byte) byte) ≡ true
  of true h = and_from (is_ascii_graphic byte) true (and_parts (is_ascii_graphic byte) (not (byte == 92)) h).0 refl
  of false h = behind_is_graphic (letter_of byte) byte (letter_is_graphic byte)

name_is_graphic : (name : List ℕ) → list_all is_ascii_graphic (shown_name name) ≡ true
name_is_graphic [] = refl
name_is_graphic (byte ∷ name) =
    list_all-append is_ascii_graphic (shown_byte byte) (shown_name name)
    ∙ and_from (list_all is_ascii_graphic (shown_byte byte)) (list_all is_ascii_graphic (shown_name name))
    (byte_is_graphic byte)
    (name_is_graphic name)

-- no other byte is shown
pub graphic_text : (name shown : List ℕ) → shown ≡ shown_name name → list_all is_ascii_graphic shown ≡ true
graphic_text name shown h = ap (list_all is_ascii_graphic) h ∙ name_is_graphic name

plain_is_itself : (name : List ℕ) → list_all is_plain name ≡ true → shown_name name ≡ name
plain_is_itself [] h = refl
plain_is_itself (byte ∷ name) h =
    let parts = and_parts (is_plain byte) (list_all is_plain name) h in
    ap (λ plain. (if plain then byte ∷ [] else 92 ∷ behind_backslash (letter_of byte) byte) ++ shown_name name) parts.0
    ∙ ap (λ rest. byte ∷ rest) (plain_is_itself name parts.1)

-- a name of plain bytes is shown as it is
pub plain_text : (name shown : List ℕ) → shown ≡ shown_name name → list_all is_plain name ≡ true → shown ≡ name
plain_text name shown h plain = h ∙ plain_is_itself name plain
