-- Hex digits.
use Rattle.std.proofs.Common.{◌≡◌, ℕ, ◌+◌, ◌/◌, ◌%◌, ◌^◌, ◌<◌, ◌≤◌, zero, suc, true, List, [], ◌∷◌, ◌++◌, refl, ◌∙◌, ap}
use Rattle.std.proofs.Common.{length, map, arith, rules}
use Rattle.std.specs.Prelude.{nat_lt}
use Rattle.std.specs.List.{list_all, AllByRecursion}
use Rattle.std.specs.Char.{digit_char, digit_value}
use Rattle.std.specs.Int.Digits.{digits_of, number_from_digits}
use Rattle.std.specs.Str.Parse.{digits_value}
use Rattle.std.proofs.lemmas.Int.Digits.{digits_of_step, length-digits_of_step, length-digits_of-le}
use Rattle.std.proofs.lemmas.Int.Digits.{all_below_base_digits_of, number_digits_of, digits_value_is}
use Rattle.std.proofs.lemmas.List.{map-append, length-map}

pub hex_length : (n : ℕ) → 0 < n → length (digits_of 16 n) ≡ length (digits_of 16 (n / 16)) + 1
hex_length n h = length-digits_of_step 16 n (omega arith) h

pub hex_step : (n : ℕ) → 0 < n
    → map digit_char (digits_of 16 n) ≡ map digit_char (digits_of 16 (n / 16)) ++ digit_char (n % 16) ∷ []
hex_step n h = ap (map digit_char) (digits_of_step 16 n (omega arith) h)
    ∙ map-append digit_char (digits_of 16 (n / 16)) (n % 16 ∷ [])

pub hex_short : (n : ℕ) → n < 2 ^ 32 → length (digits_of 16 n) ≤ 8
hex_short n h = length-digits_of-le 16 8 n (omega arith) (omega arith)

pub hex_map_length : (n : ℕ) → length (map digit_char (digits_of 16 n)) ≡ length (digits_of 16 n)
hex_map_length n = length-map (digits_of 16 n) digit_char

-- a digit is read as what it was written for
pub glyph_value : (d : ℕ) → d < 16 → digit_value (digit_char d) ≡ d
glyph_value zero h = refl
glyph_value (suc zero) h = refl
glyph_value (suc (suc zero)) h = refl
glyph_value (suc (suc (suc zero))) h = refl
glyph_value (suc (suc (suc (suc zero)))) h = refl
glyph_value (suc (suc (suc (suc (suc zero))))) h = refl
glyph_value (suc (suc (suc (suc (suc (suc zero)))))) h = refl
glyph_value (suc (suc (suc (suc (suc (suc (suc zero))))))) h = refl
glyph_value (suc (suc (suc (suc (suc (suc (suc (suc zero)))))))) h = refl
glyph_value (suc (suc (suc (suc (suc (suc (suc (suc (suc zero))))))))) h = refl
glyph_value (suc (suc (suc (suc (suc (suc (suc (suc (suc (suc zero)))))))))) h = refl
glyph_value (suc (suc (suc (suc (suc (suc (suc (suc (suc (suc (suc zero))))))))))) h = refl
glyph_value (suc (suc (suc (suc (suc (suc (suc (suc (suc (suc (suc (suc zero)))))))))))) h = refl
glyph_value (suc (suc (suc (suc (suc (suc (suc (suc (suc (suc (suc (suc (suc zero))))))))))))) h = refl
glyph_value (suc (suc (suc (suc (suc (suc (suc (suc (suc (suc (suc (suc (suc (suc zero)))))))))))))) h = refl
glyph_value (suc (suc (suc (suc (suc (suc (suc (suc (suc (suc (suc (suc (suc (suc (suc zero))))))))))))))) h = refl
glyph_value (suc (suc (suc (suc (suc (suc (suc (suc (suc (suc (suc (suc (suc (suc (suc (suc n)))))))))))))))) h =
    absurd (omega arith)

values : (ds : List ℕ) → AllByRecursion (λ d. d < 16) ds → map digit_value (map digit_char ds) ≡ ds
values [] h = refl
values (d ∷ ds) h =
    ap (λ v. v ∷ map digit_value (map digit_char ds)) (glyph_value d h.0) ∙ ap (λ v. d ∷ v) (values ds h.1)

small_test : (d : ℕ) → d < 16 → nat_lt (digit_value (digit_char d)) 16 ≡ true
small_test d h = ap (λ v. nat_lt v 16) (glyph_value d h) ∙ search rules

digits_all : (ds : List ℕ) → AllByRecursion (λ d. d < 16) ds
    → list_all (λ b. nat_lt (digit_value b) 16) (map digit_char ds) ≡ true
digits_all [] h = refl
digits_all (d ∷ ds) h = rw (small_test d h.0) (digits_all ds h.1)

-- the digits of a number that is not 0
abbrev pub digits : ℕ → List ℕ
digits n = map digit_char (digits_of 16 n)

pub some_digits : (n : ℕ) → 0 < n → 0 < length (digits n)
some_digits n h =
    let l = hex_map_length n in
    let s = hex_length n h in
    omega arith

pub hex_all : (n : ℕ) → list_all (λ b. nat_lt (digit_value b) 16) (digits n) ≡ true
hex_all n = digits_all (digits_of 16 n) (all_below_base_digits_of 16 n (omega arith))

-- written digits are read as the number
pub value_again : (n : ℕ) → digits_value 16 (digits n) ≡ n
value_again n =
    digits_value_is 16 (digits n)
    ∙ ap (number_from_digits 16) (values (digits_of 16 n) (all_below_base_digits_of 16 n (omega arith)))
    ∙ number_digits_of 16 n (omega arith)
