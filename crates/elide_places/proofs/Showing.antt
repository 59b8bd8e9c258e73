-- What stands in a row of names.
use Rattle.std.proofs.Common.{◌≡◌, ℕ, ◌+◌, ◌<◌, Bool, true, false, not, ◌&&◌, cond, List, [], ◌∷◌, ◌++◌, map}
use Rattle.std.proofs.Common.{refl, ◌∙◌, ap, arith}
use Rattle.std.specs.Prelude.{if◌then◌else◌, ◌==◌, nat_lt, codes}
use Rattle.std.specs.List.{list_all}
use Rattle.std.specs.Char.{digit_char, is_ascii_graphic}
use Rattle.std.specs.Int.Digits.{AllBelowBase, digits_of}
use Rattle.std.proofs.lemmas.Bool.{and_from, and_parts}
use Rattle.std.proofs.lemmas.Bool.Decides.{nat_tests}
use Rattle.std.proofs.lemmas.Int.Digits.{all_below_base_digits_of}
use Rattle.std.proofs.lemmas.List.Folds.{list_all-append}
use Rattle.symbols.specs.Shown.{is_plain}
use Rattle.text_out.specs.Number.{hex_digits, number}
use Rattle.elide_places.specs.Shown.{is_printable}

byte_is_printable : (byte : ℕ) → is_ascii_graphic byte ≡ true → is_printable byte ≡ true
byte_is_printable byte h = grind (arith, nat_tests)

pub text_is_printable : (text : List ℕ) → list_all is_ascii_graphic text ≡ true → list_all is_printable text ≡ true
text_is_printable [] h = refl
text_is_printable (byte ∷ text) h =
    let parts = and_parts (is_ascii_graphic byte) (list_all is_ascii_graphic text) h in
    and_from (is_printable byte) (list_all is_printable text) (byte_is_printable byte parts.0)
    (text_is_printable text parts.1)

digit_is_printable : (d : ℕ) → d < 16 → is_printable (digit_char d) ≡ true
digit_is_printable d h = of (nat_lt d 10) refl where
  of : (small : Bool) → nat_lt d 10 ≡ small → is_printable (cond small (48 + d) (87 + d)) ≡ true
  of true e = grind (arith, nat_tests)
  of false e = grind (arith, nat_tests)

digits_are_printable : (ds : List ℕ) → AllBelowBase 16 ds → list_all is_printable (map digit_char ds) ≡ true
digits_are_printable [] h = refl
digits_are_printable (d ∷ ds) h = and_from _ _ (digit_is_printable d h.0) (digits_are_printable ds h.1)

hex_is_printable : (n : ℕ) → list_all is_printable (hex_digits n) ≡ true
hex_is_printable n = of (n == 0) where
  of : (zero : Bool) → list_all is_printable (if zero then codes "0" else map digit_char (digits_of 16 n)) ≡ true
  of true = refl
  of false = digits_are_printable (digits_of 16 n) (all_below_base_digits_of 16 n (omega arith))

-- a distance
pub distance_is_printable : (n : ℕ) (text : List ℕ) → text ≡ codes "+" ++ number n → list_all is_printable text ≡ true
distance_is_printable n text h =
    ap (list_all is_printable) h ∙ list_all-append is_printable (codes "+0x") (hex_digits n)
    ∙ and_from _ _ refl (hex_is_printable n)

-- a row with one text more
pub more_is_printable : (row text : List ℕ) → list_all is_printable row ≡ true → list_all is_printable text ≡ true
    → list_all is_printable (row ++ text) ≡ true
more_is_printable row text h k = list_all-append is_printable row text ∙ and_from _ _ h k

-- a byte that stands for itself
pub plain_is_printable : (byte : ℕ) → is_plain byte ≡ true → is_printable byte ≡ true
plain_is_printable byte h = byte_is_printable byte (and_parts (is_ascii_graphic byte) (not (byte == 92)) h).0

-- a row with one byte more
pub one_more_is_printable : (row : List ℕ) (byte : ℕ) → list_all is_printable row ≡ true → is_printable byte ≡ true
    → list_all is_printable (row ++ byte ∷ []) ≡ true
one_more_is_printable row byte h k = list_all-append is_printable row (byte ∷ []) ∙ and_from _ _ h (and_from _ _ k refl)
