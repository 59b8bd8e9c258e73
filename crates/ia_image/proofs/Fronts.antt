-- Hex digits in front of a text.
use Rattle.std.proofs.Common.{◌≡◌, ℕ, ◌+◌, ◌*◌, ◌^◌, ◌<◌, ◌≤◌, Bool, true, false, ◌&&◌, List, [], ◌∷◌, refl, sym, ◌∙◌}
use Rattle.std.proofs.Common.{ap, take, drop, length, get_or, arith, zero, suc}
use Rattle.std.specs.List.{prefix_len, list_all}
use Rattle.std.specs.Char.{digit_value}
use Rattle.std.specs.Str.Parse.{digits_value, AllDigits}
use Rattle.std.proofs.lemmas.Int.Digits.{digits_value-lt, digits_value_more}
use borrow.Author.Tests.{ltb-true}
use Rattle.std.proofs.lemmas.Bool.{false≢true}
use Rattle.std.proofs.lemmas.List.{length-take, take_all}
use Rattle.std.proofs.lemmas.List.Folds.{list_all_at}
use Rattle.std.proofs.Math.Nat.{pow-le-pow_right}
use Rattle.ia_image.specs.ImageText.{is_hex}

front_passes : (p : ℕ → Bool) (xs : List ℕ) → list_all p (take (prefix_len p xs) xs) ≡ true
front_passes p [] = refl
front_passes p (x ∷ xs) = by_first (p x) refl (front_passes p xs)
  where
    by_first : (b : Bool) → p x ≡ b → list_all p (take (prefix_len p xs) xs) ≡ true
        → list_all p (take (prefix_len p (x ∷ xs)) (x ∷ xs)) ≡ true
    by_first true e h =
        let one : 1 + prefix_len p xs ≡ suc (prefix_len p xs) = omega arith in
        rw e (rw one (rw e h))
    by_first false e h = rw e refl

-- the front is digits alone
pub digits_of_front : (xs : List ℕ) → list_all is_hex (take (prefix_len is_hex xs) xs) ≡ true
digits_of_front xs = front_passes is_hex xs

pub both : (a b : Bool) → (a && b) ≡ true → (a ≡ true) × (b ≡ true)
both true b h = (refl, h)
both false b h = absurd (cc)

all_digits : (xs : List ℕ) → list_all is_hex xs ≡ true → AllDigits 16 xs
all_digits [] h = tt
all_digits (x ∷ xs) h =
    let parts = both (is_hex x) (list_all is_hex xs) h in
    (ltb-true (digit_value x) 16 parts.0, all_digits xs parts.1)

all_taken : (i : ℕ) (xs : List ℕ) → list_all is_hex xs ≡ true → list_all is_hex (take i xs) ≡ true
all_taken zero xs h = refl
all_taken (suc i) [] h = refl
all_taken (suc i) (x ∷ xs) h =
    let parts = both (is_hex x) (list_all is_hex xs) h in
    rw parts.0 (all_taken i xs parts.1)

pub digit_at : (xs : List ℕ) (i : ℕ) → list_all is_hex xs ≡ true → i < length xs → is_hex (get_or xs i 0) ≡ true
digit_at xs i h within = by_test (is_hex (get_or xs i 0)) refl
  where
    by_test : (b : Bool) → is_hex (get_or xs i 0) ≡ b → is_hex (get_or xs i 0) ≡ true
    by_test true e = e
    by_test false e = absurd (false≢true (sym (list_all_at is_hex xs i 0 within e) ∙ h))

pub value_step : (xs : List ℕ) (i : ℕ) → i < length xs
    → digits_value 16 (take (i + 1) xs) ≡ digits_value 16 (take i xs) * 16 + digit_value (get_or xs i 0)
value_step xs i h = digits_value_more 16 xs i h

pub value_small : (xs : List ℕ) (i : ℕ) → list_all is_hex xs ≡ true → length xs ≤ 8 → i < length xs
    → digits_value 16 (take i xs) < 268435456
value_small xs i h few within =
    let below = digits_value-lt 16 (take i xs) (all_digits (take i xs) (all_taken i xs h)) in
    let long : length (take i xs) ≤ 7 = omega (arith, length-take i xs) in
    let some : 0 < 16 = omega arith in
    let most : 16 ^ length (take i xs) ≤ 16 ^ 7 = pow-le-pow_right some long in
    omega arith

pub value_all : (xs : List ℕ) (i : ℕ) → length xs ≤ i → digits_value 16 (take i xs) ≡ digits_value 16 xs
value_all xs i h = ap (digits_value 16) (take_all i xs h)

-- a number that is read digit by digit
pub ruleset value_steps = (value_step, value_small, digit_at, value_all)
