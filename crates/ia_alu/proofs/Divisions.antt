-- Quotients of signed numbers.
use Rattle.std.proofs.Common.{◌≡◌, ◌≢◌, ℕ, zero, suc, ◌/◌, ◌^◌, ◌<◌, ◌≤◌, arith, ℤ, pos, negsuc, neg_ℤ, false, refl}
use Rattle.std.proofs.Common.{unsigned_abs, int_div}
use Rattle.std.specs.Int.{cast_signed, cast_unsigned, w64}
use Rattle.std.specs.Int.RustNames.{FitsSigned}
use Rattle.std.proofs.Math.Nat.{div-le_self}
use Rattle.std.proofs.lemmas.Int.{ints}
use Rattle.std.proofs.lemmas.Bool.Decides.{nat_tests}
use Rattle.ia_word.specs.declared.width.Width.TheVariants.{D}
use Rattle.ia_alu.specs.Numbers.{overflows, signed_value}

abs_neg : (n : ℕ) → unsigned_abs (neg_ℤ (pos n)) ≡ n
abs_neg zero = refl
abs_neg (suc n) = refl

-- a quotient is no larger than the dividend
pub quotient_within : (x y : ℤ) → FitsSigned w64 x → unsigned_abs (int_div x y) ≤ 2 ^ 63
quotient_within (pos a) (pos b) h = omega (arith, div-le_self a b)
quotient_within (pos a) (negsuc b) h = omega (arith, abs_neg (a / suc b), div-le_self a (suc b))
quotient_within (negsuc a) (pos b) h = omega (arith, abs_neg (suc a / b), div-le_self (suc a) b)
quotient_within (negsuc a) (negsuc b) h = omega (arith, div-le_self (suc a) (suc b))

-- what is left of it in 64 bits lies outside a doubleword where it does
pub wrapped_overflows : (q : ℤ) → unsigned_abs q ≤ 2 ^ 63
    → overflows D (cast_signed w64 (cast_unsigned w64 q)) ≡ overflows D q
unfolding overflows
wrapped_overflows (pos n) h = grind (arith, nat_tests)
wrapped_overflows (negsuc n) h = grind (arith, nat_tests)

-- and is the quotient itself where it does not
pub wrapped_is : (q : ℤ) → unsigned_abs q ≤ 2 ^ 63 → overflows D q ≡ false → cast_signed w64 (cast_unsigned w64 q) ≡ q
unfolding overflows
wrapped_is (pos n) h o = grind (arith, nat_tests)
wrapped_is (negsuc n) h o = grind (arith, nat_tests)

pub signed_nonzero : (n : ℕ) → n < 2 ^ 32 → n ≢ 0 → signed_value D n ≢ pos 0
unfolding signed_value
signed_nonzero n h ne = grind (arith, nat_tests, ints)

-- a quotient that fits, or does not
pub ruleset quotients = (quotient_within, wrapped_overflows, wrapped_is)
