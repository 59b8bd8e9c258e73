-- The digits of a core's number.
use Rattle.std.proofs.Common.{◌≡◌, ℕ, ◌+◌, ◌/◌, ◌%◌, ◌<◌, ◌≤◌, ◌∙◌, Bool, true, false, if◌then◌else◌, nat_lt, List, []}
use Rattle.std.proofs.Common.{◌∷◌, ◌++◌, ap, arith, refl, sym}
use Rattle.std.proofs.lemmas.Bool.{ltb-false, ltb-true}
use Rattle.std.proofs.lemmas.Fmt.{decimal_digit, decimal_step}
use Rattle.std.specs.Fmt.{decimal}
use Rattle.std.specs.Prelude.{IsOk, OnOk, Result, Ok, Err}
use Rattle.text_out.specs.TextLine.{number_text}

cases : (P : List ℕ → Type 0) (b c : Bool) (x y z : List ℕ) → (b ≡ true → P x) → (b ≡ false → c ≡ true → P y) →
    (b ≡ false → c ≡ false → P z) → P (if b then x else if c then y else z)
cases P true c x y z p q r = p refl
cases P false true x y z p q r = q refl refl
cases P false false x y z p q r = r refl refl

two_digits : (n : ℕ) → 10 ≤ n → n < 100 → decimal n ≡ (48 + n / 10) ∷ (48 + n % 10) ∷ []
two_digits n low high =
    decimal_step n low (omega arith) ∙ ap (λ l. l ++ (48 + n % 10) ∷ []) (decimal_digit (n / 10) (omega arith))

three_digits : (n : ℕ) → 100 ≤ n → n < 1000 → decimal n ≡ (48 + n / 100) ∷ (48 + n / 10 % 10) ∷ (48 + n % 10) ∷ []
three_digits n low high =
    let hundreds : n / 10 / 10 ≡ n / 100 = omega arith in
    decimal_step n (omega arith) (omega arith) ∙ ap (λ l. l ++ (48 + n % 10) ∷ [])
    (two_digits (n / 10) (omega arith) (omega arith) ∙ ap (λ h. (48 + h) ∷ (48 + n / 10 % 10) ∷ []) hundreds)

-- a number below 1000 is written alike by both
pub decimal_of_small : (n : ℕ) → n < 1000 → decimal n ≡ number_text n
unfolding number_text
decimal_of_small n small = cases (λ text. decimal n ≡ text) (nat_lt n 10) (nat_lt n 100) _ _ _
    (λ is. decimal_digit n (ltb-true n 10 is))
    (λ no is. two_digits n (ltb-false n 10 no) (ltb-true n 100 is))
    (λ no more. three_digits n (ltb-false n 100 more) small)

-- what holds where a call did what it was asked
pub at_ok : {T E P : Type 0} (r : Result T E) → IsOk r → OnOk r P → P
at_ok (Ok done) is holds = holds
at_ok (Err refused) is holds = absurd cc
