-- Written numbers are read again.
use Rattle.std.proofs.Common.{◌≡◌, ℕ, zero, suc, ◌^◌, ◌<◌, ◌≤◌, Bool, true, false, List, [], ◌∷◌, ◌++◌, Some, refl, sym}
use Rattle.std.proofs.Common.{◌∙◌, ap, subst, length, arith, rules}
use Rattle.std.specs.Prelude.{◌==◌, cond, nat_lt, nat_le, codes}
use Rattle.std.proofs.Math.Seq.{take-append_seam}
use Rattle.std.specs.List.{list_all, prefix_len}
use Rattle.std.specs.Str.Parse.{digits_value}
use Rattle.text_out.specs.Number.{hex_digits}
use Rattle.text_out.proofs.Digits.{digits, hex_map_length, hex_short, some_digits, hex_all, value_again}
use Rattle.ia_image.specs.ImageText.{is_hex, number_in_front}
use Rattle.ia_image.proofs.Fronts.{both}

few_digits : (n : ℕ) → n < 2 ^ 32 → length (digits n) ≤ 8
few_digits n h =
    let l = hex_map_length n in
    let s = hex_short n h in
    omega arith

-- what the digits of a number are
pub record IsWritten (n : ℕ) (ds : List ℕ) : Type 0 where
  pub hex : list_all is_hex ds ≡ true
  pub some : 0 < length ds
  pub few : length ds ≤ 8
  pub value : digits_value 16 ds ≡ n

pub hex_written : (n : ℕ) → n < 2 ^ 32 → IsWritten n (hex_digits n)
hex_written zero h = record { hex = refl; some = omega arith; few = omega arith; value = refl }
hex_written (suc k) h =
    let not0 : (suc k == 0) ≡ false = search rules in
    let P : Bool → Type 0 = λ b. IsWritten (suc k) (cond b (codes "0") (digits (suc k))) in
    subst P (sym not0) (record {
      hex = hex_all (suc k);
      some = some_digits (suc k) (omega arith);
      few = few_digits (suc k) h;
      value = value_again (suc k);
    })

whole_prefix : (p : ℕ → Bool) (xs rest : List ℕ) → list_all p xs ≡ true → prefix_len p rest ≡ 0
    → prefix_len p (xs ++ rest) ≡ length xs
whole_prefix p [] rest h e = e
whole_prefix p (x ∷ xs) rest h e =
    let parts = both (p x) (list_all p xs) h in
    let more = whole_prefix p xs rest parts.1 e in
    rw parts.0 (omega arith)

-- it is read, with whatever behind that is no digit
pub number_again : (n : ℕ) (ds rest : List ℕ) → IsWritten n ds → prefix_len is_hex rest ≡ 0
    → number_in_front (ds ++ rest) ≡ Some (n, length ds)
unfolding number_in_front
number_again n ds rest w e =
    let count = whole_prefix is_hex ds rest w.hex e in
    let some : 0 < length ds = w.some in
    let few : length ds ≤ 8 = w.few in
    let t1 : nat_lt 0 (length ds) ≡ true = search rules in
    let t2 : nat_le (length ds) 8 ≡ true = search rules in
    rw (count, t1, t2)
    (ap (λ l. Some (digits_value 16 l, length ds)) (take-append_seam ds rest) ∙ ap (λ v. Some (v, length ds)) w.value)
