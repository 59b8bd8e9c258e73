-- Printed numbers are read again.
use Rattle.std.proofs.Common.{◌≡◌, ℕ, zero, suc, ◌<◌, Bool, true, false, cond, List, [], ◌∷◌, Some, refl, ◌∙◌, ap}
use Rattle.std.proofs.Common.{length, map, arith, rules}
use Rattle.std.specs.Prelude.{◌==◌, codes, nat_lt, ◌&&◌}
use Rattle.std.proofs.lemmas.Int.Digits.{all_below_base_digits_of}
use Rattle.std.specs.List.{list_all, AllByRecursion}
use Rattle.std.specs.Char.{digit_char, digit_value}
use Rattle.std.specs.Int.Digits.{digits_of}
use Rattle.std.specs.Str.Parse.{digits_value}
use Rattle.ia_lex.specs.Chars.{is_name}
use Rattle.ia_lex.specs.Numbers.{number_of, small, all_digits, suffixed}
use Rattle.text_out.specs.Number.{hex_digits, number}
use Rattle.text_out.proofs.Digits.{digits, some_digits, hex_all, value_again}
use Rattle.ia_lex.specs.Tokens.{Number}
use Rattle.ia_round_trip.proofs.TokenLemmas.{all_by, Open, open_number}

glyph_name : (d : ℕ) → d < 16 → is_name (digit_char d) ≡ true
glyph_name zero h = refl
glyph_name (suc zero) h = refl
glyph_name (suc (suc zero)) h = refl
glyph_name (suc (suc (suc zero))) h = refl
glyph_name (suc (suc (suc (suc zero)))) h = refl
glyph_name (suc (suc (suc (suc (suc zero))))) h = refl
glyph_name (suc (suc (suc (suc (suc (suc zero)))))) h = refl
glyph_name (suc (suc (suc (suc (suc (suc (suc zero))))))) h = refl
glyph_name (suc (suc (suc (suc (suc (suc (suc (suc zero)))))))) h = refl
glyph_name (suc (suc (suc (suc (suc (suc (suc (suc (suc zero))))))))) h = refl
glyph_name (suc (suc (suc (suc (suc (suc (suc (suc (suc (suc zero)))))))))) h = refl
glyph_name (suc (suc (suc (suc (suc (suc (suc (suc (suc (suc (suc zero))))))))))) h = refl
glyph_name (suc (suc (suc (suc (suc (suc (suc (suc (suc (suc (suc (suc zero)))))))))))) h = refl
glyph_name (suc (suc (suc (suc (suc (suc (suc (suc (suc (suc (suc (suc (suc zero))))))))))))) h = refl
glyph_name (suc (suc (suc (suc (suc (suc (suc (suc (suc (suc (suc (suc (suc (suc zero)))))))))))))) h = refl
glyph_name (suc (suc (suc (suc (suc (suc (suc (suc (suc (suc (suc (suc (suc (suc (suc zero))))))))))))))) h = refl
glyph_name (suc (suc (suc (suc (suc (suc (suc (suc (suc (suc (suc (suc (suc (suc (suc (suc n)))))))))))))))) h =
    absurd (omega arith)

names : (ds : List ℕ) → AllByRecursion (λ d. d < 16) ds → all_by is_name (map digit_char ds) ≡ true
names [] h = refl
names (d ∷ ds) h = ap (λ v. cond v (all_by is_name (map digit_char ds)) false) (glyph_name d h.0) ∙ names ds h.1

both : Bool → Bool → Bool → Bool
both x y z = ((x && true) && true) && (y && z)

prefixed : (ds : List ℕ) (v : ℕ) → 0 < length ds → list_all (λ b. nat_lt (digit_value b) 16) ds ≡ true
    → digits_value 16 ds ≡ v → number_of (48 ∷ 120 ∷ ds) ≡ Some (small v)
unfolding number_of both
prefixed ds v h a e =
    let x : nat_lt 2 (length (48 ∷ 120 ∷ ds)) ≡ true = search rules in
    let y : nat_lt 0 (length ds) ≡ true = search rules in
    let t :
    both (nat_lt 2 (length (48 ∷ 120 ∷ ds))) (nat_lt 0 (length ds)) (list_all (λ b. nat_lt (digit_value b) 16) ds)
    ≡ true
    = ap (λ b. both b (nat_lt 0 (length ds)) (list_all (λ b. nat_lt (digit_value b) 16) ds)) x
    ∙ ap (λ b. both true b (list_all (λ b. nat_lt (digit_value b) 16) ds)) y
    ∙ ap (λ b. both true true b) a in
    ap (λ b. cond b (Some (small (digits_value 16 ds))) (cond (all_digits 10 (48 ∷ 120 ∷ ds))
    (Some (small (digits_value 10 (48 ∷ 120 ∷ ds)))) (suffixed (48 ∷ 120 ∷ ds)))) t ∙ ap (λ n. Some (small n)) e

hex_again : (n : ℕ) → number_of (48 ∷ 120 ∷ hex_digits n) ≡ Some (small n)
unfolding number_of
hex_again zero = refl
hex_again (suc k) =
    let not0 : (suc k == 0) ≡ false = search rules in
    ap (λ b. number_of (48 ∷ 120 ∷ cond b (codes "0") (digits (suc k)))) not0
    ∙ prefixed (digits (suc k)) (suc k) (some_digits (suc k) (omega arith)) (hex_all (suc k)) (value_again (suc k))

pub hex_names : (n : ℕ) → all_by is_name (48 ∷ 120 ∷ hex_digits n) ≡ true
hex_names zero = refl
hex_names (suc k) =
    let not0 : (suc k == 0) ≡ false = search rules in
    ap (λ b. all_by is_name (cond b (codes "0") (digits (suc k)))) not0
    ∙ names (digits_of 16 (suc k)) (all_below_base_digits_of 16 (suc k) (omega arith))

pub open_printed : (n : ℕ) → Open (number n) (Number (small n) ∷ [])
open_printed n = open_number 48 (120 ∷ hex_digits n) (small n)
    (record { blank = refl; comment = refl; name = refl; kind = refl }) (hex_names n) (hex_again n)
