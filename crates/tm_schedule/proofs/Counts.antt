-- Counts in decimal digits.
use Rattle.std.proofs.Common.{◌≡◌, ℕ, zero, suc, ◌+◌, ◌*◌, ◌/◌, ◌%◌, ◌^◌, ◌<◌, ◌≤◌, ◌&&◌, Bool, true, false, List, []}
use Rattle.std.proofs.Common.{◌∷◌, ◌++◌, refl, sym, ◌∙◌, ap, arith, length, take, map, get_or}
use Rattle.std.specs.Prelude.{not, nat_le, ◌==◌}
use Rattle.std.specs.Char.{digit_char, digit_value, is_ascii_digit}
use Rattle.std.specs.List.{list_all}
use Rattle.std.specs.Int.Digits.{digits_of}
use Rattle.std.specs.Str.Parse.{digits_value, AllDigits}
use Rattle.std.proofs.lemmas.Bool.{false≢true, leb-true}
use Rattle.std.proofs.lemmas.Bool.Decides.{nat_tests}
use Rattle.std.proofs.lemmas.List.{length-take, take_all, map-append}
use Rattle.std.proofs.lemmas.List.Folds.{list_all_at}
use Rattle.std.proofs.lemmas.Int.Digits.{digits_value_more, digits_value-lt, digits_of_step, length-digits_of_step}
use Rattle.std.proofs.lemmas.Int.Digits.{length-digits_of-le}
use Rattle.std.proofs.Math.Nat.{pow-le-pow_right}
use Rattle.tm_schedule.specs.ScheduleRuns.{is_count, count_text}

pub both : (a b : Bool) → (a && b) ≡ true → (a ≡ true) × (b ≡ true)
both true b h = (refl, h)
both false b h = absurd (cc)

digits_are : (text : List ℕ) → is_count text ≡ true → list_all is_ascii_digit text ≡ true
digits_are text h = (both (not (length text == 0) && nat_le (length text) 8) (list_all is_ascii_digit text) h).1

few_are : (text : List ℕ) → is_count text ≡ true → length text ≤ 8
few_are text h =
    let front = both (not (length text == 0) && nat_le (length text) 8) (list_all is_ascii_digit text) h in
    leb-true (length text) 8 (both (not (length text == 0)) (nat_le (length text) 8) front.0).1

digit_small : (b : ℕ) → is_ascii_digit b ≡ true → digit_value b < 10
digit_small b h = grind (arith, nat_tests)

all_digits : (text : List ℕ) → list_all is_ascii_digit text ≡ true → AllDigits 10 text
all_digits [] h = tt
all_digits (b ∷ bs) h =
    let parts = both (is_ascii_digit b) (list_all is_ascii_digit bs) h in
    (digit_small b parts.0, all_digits bs parts.1)

all_taken : (i : ℕ) (text : List ℕ) → list_all is_ascii_digit text ≡ true → list_all is_ascii_digit (take i text) ≡ true
all_taken zero text h = refl
all_taken (suc i) [] h = refl
all_taken (suc i) (b ∷ bs) h =
    let parts = both (is_ascii_digit b) (list_all is_ascii_digit bs) h in
    rw parts.0 (all_taken i bs parts.1)

pub digit_at : (text : List ℕ) (i : ℕ) → is_count text ≡ true → i < length text
    → is_ascii_digit (get_or text i 0) ≡ true
digit_at text i h within = by_test (is_ascii_digit (get_or text i 0)) refl
  where
    by_test : (b : Bool) → is_ascii_digit (get_or text i 0) ≡ b → is_ascii_digit (get_or text i 0) ≡ true
    by_test true e = e
    by_test false e = absurd (false≢true (sym (list_all_at is_ascii_digit text i 0 within e) ∙ digits_are text h))

pub value_step : (text : List ℕ) (i : ℕ) → i < length text
    → digits_value 10 (take (i + 1) text) ≡ digits_value 10 (take i text) * 10 + digit_value (get_or text i 0)
value_step text i h = digits_value_more 10 text i h

pub value_small : (text : List ℕ) (i : ℕ) → is_count text ≡ true → i < length text
    → digits_value 10 (take i text) < 10000000
value_small text i h within =
    let below = digits_value-lt 10 (take i text) (all_digits (take i text) (all_taken i text (digits_are text h))) in
    let few = few_are text h in
    let long : length (take i text) ≤ 7 = omega (arith, length-take i text) in
    let some : 0 < 10 = omega arith in
    let most : 10 ^ length (take i text) ≤ 10 ^ 7 = pow-le-pow_right some long in
    omega arith

pub value_all : (text : List ℕ) (i : ℕ) → length text ≤ i → digits_value 10 (take i text) ≡ digits_value 10 text
value_all text i h = ap (digits_value 10) (take_all i text h)

-- ---- writing

digit_is : (d : ℕ) → d < 10 → digit_char d ≡ 48 + d
digit_is d h = grind (arith, nat_tests)

pub count_text_step : (n : ℕ) → 0 < n → count_text (n / 10) ++ (48 + n % 10) ∷ [] ≡ count_text n
count_text_step n h =
    ap (λ c. count_text (n / 10) ++ c ∷ []) (sym (digit_is (n % 10) (omega arith)))
    ∙ sym (ap (map digit_char) (digits_of_step 10 n (omega arith) h)
    ∙ map-append digit_char (digits_of 10 (n / 10)) (n % 10 ∷ []))

pub count_few : (n : ℕ) → n < 2 ^ 32 → length (digits_of 10 n) ≤ 10
count_few n h = length-digits_of-le 10 10 n (omega arith) (omega arith)

pub count_long : (n : ℕ) → 0 < n → length (digits_of 10 n) ≡ length (digits_of 10 (n / 10)) + 1
count_long n h = length-digits_of_step 10 n (omega arith) h

pub count_none : (n : ℕ) → n ≡ 0 → count_text n ≡ []
count_none n h = ap count_text h

-- a number that is read digit by digit
pub ruleset value_steps = (value_step, value_small, digit_at, value_all)

-- a count that is written, or left out
pub ruleset count_texts = (count_text_step, count_long, count_none)
