-- A core number that is written reads as that number.
use Rattle.std.proofs.Common.{◌≡◌, ℕ, ◌+◌, ◌-◌, ◌*◌, ◌/◌, ◌%◌, ◌<◌, Bool, true, false, if◌then◌else◌, nat_lt, List}
use Rattle.std.proofs.Common.{refl, ◌∙◌, ap, arith, length, Some}
use Rattle.std.specs.Char.{is_ascii_digit}
use Rattle.std.proofs.lemmas.Bool.{lt-ltb, ltb-true}
use Rattle.std.proofs.lemmas.Bool.Decides.{nat_tests}
use Rattle.text_out.specs.TextLine.{number_text}
use Rattle.tm_schedule.specs.ScheduleNumbers.{small, three_digits, core_number}
use Rattle.tm_schedule.proofs.WordsBack.{Above, by_test}

pub cases : (P : List ℕ → Type 0) (b c : Bool) (x y z : List ℕ) → (b ≡ true → P x) → (b ≡ false → c ≡ true → P y)
    → (b ≡ false → c ≡ false → P z) →
    P (if b then x else if c then y else z)
cases P true c x y z p q r = p refl
cases P false true x y z p q r = q refl refl
cases P false false x y z p q r = r refl refl

pub number_digits : (n : ℕ) → Above 42 (number_text n)
unfolding number_text
number_digits n = cases (Above 42) (nat_lt n 10) (nat_lt n 100) _ _ _
    (λ _. (omega arith, tt)) (λ _ _. (omega arith, (omega arith, tt)))
    (λ _ _. (omega arith, (omega arith, (omega arith, tt))))

digit_yes : (a : ℕ) → a < 10 → is_ascii_digit (48 + a) ≡ true
digit_yes a h = grind (arith, nat_tests)

small_yes : (n : ℕ) → n < 256 → small n ≡ Some n
small_yes n h = rw (lt-ltb n 256 h)

pub three : (a b c n : ℕ) → a < 10 → b < 10 → c < 10 → a * 100 + b * 10 + c ≡ n → n < 256
    → three_digits (48 + a) (48 + b) (48 + c) ≡ Some n
three a b c n ha hb hc e h =
    let v : (48 + a - 48) * 100 + (48 + b - 48) * 10 + (48 + c - 48) ≡ n = omega arith in
    rw (digit_yes a ha, digit_yes b hb, digit_yes c hc) (ap small v ∙ small_yes n h)

pub core_back : (n : ℕ) → n < 256 → core_number (number_text n) ≡ Some n
unfolding number_text core_number
core_back n h = cases (λ t. core_number t ≡ Some n) (nat_lt n 10) (nat_lt n 100) _ _ _
    (λ e. let l = ltb-true n 10 e in three 0 0 n n (omega arith) (omega arith) (omega arith) (omega arith) h)
    (λ _ e. let l = ltb-true n 100 e in
    three 0 (n / 10) (n % 10) n (omega arith) (omega arith) (omega arith) (omega arith) h)
    (λ _ _. three (n / 100) (n / 10 % 10) (n % 10) n (omega arith) (omega arith) (omega arith) (omega arith) h)

pub number_long : (n : ℕ) → 0 < length (number_text n)
unfolding number_text
number_long n = by_test (λ (text : List ℕ). 0 < length text) (nat_lt n 10) _ _ (λ _. omega arith)
    (λ _. by_test (λ (text : List ℕ). 0 < length text) (nat_lt n 100) _ _ (λ _. omega arith) (λ _. omega arith))
