-- The flags of a sum, one by one.
use Rattle.std.proofs.Common.{◌≡◌, ℕ, ◌+◌, ◌*◌, ◌%◌, ◌^◌, ◌≤◌, arith, Bool, ℤ, pos, ◌+ℤ◌, ◌*ℤ◌, ◌==◌, nat_le, nat_lt}
use Rattle.std.proofs.Common.{◌-ℤ◌, ◌<◌, ◌↔◌, IsTrue, ◌∙◌}
use Rattle.std.proofs.lemmas.Int.{ints}
use Rattle.std.proofs.lemmas.Bool.Decides.{nat_tests}
use Rattle.ia_word.specs.declared.width.Width.{Width}
use Rattle.ia_word.specs.Width.{bits_of}
use Rattle.ia_regs.specs.declared.flags.Flags.{Flags}
use Rattle.ia_regs.specs.Flags.{has_carry, has_parity, has_adjust, has_zero, has_sign, has_overflow, with_carry}
use Rattle.ia_regs.specs.Flags.{with_overflow}
use Rattle.ia_regs.proofs.Laws.{carry_of, parity_of, adjust_of, zero_of, sign_of, overflow_of}
use Rattle.ia_alu.specs.Numbers.{signed_value, overflows, IsOutside}
use Rattle.ia_alu.specs.Products.{product_flags, signed_product_flags}
use Rattle.ia_word.specs.declared.width.Width.TheVariants.{D}
use Rattle.ia_alu.specs.Sums.{sum_flags, difference_flags}

pub reads_le : (b : Bool) (m n : ℕ) → b ≡ nat_le m n → IsTrue b ↔ m ≤ n
reads_le b m n e = grind (arith, nat_tests)

pub reads_eq : (b : Bool) (m n : ℕ) → b ≡ (m == n) → IsTrue b ↔ m ≡ n
reads_eq b m n e = grind (arith, nat_tests)

pub reads_outside : (b : Bool) (w : Width) (z : ℤ) → b ≡ overflows w z → IsTrue b ↔ IsOutside w z
unfolding overflows
reads_outside b w z e = grind (arith, nat_tests, ints)

pub sum_carry : (w : Width) (a b c : ℕ) → has_carry (sum_flags w a b c) ≡ nat_le (2 ^ bits_of w) (a + b + c)
unfolding sum_flags
sum_carry w a b c = carry_of _ _ _ _ _ _

pub sum_adjust : (w : Width) (a b c : ℕ) → has_adjust (sum_flags w a b c) ≡ nat_le 16 (a % 16 + b % 16 + c)
unfolding sum_flags
sum_adjust w a b c = adjust_of _ _ _ _ _ _

pub sum_overflow : (w : Width) (a b c : ℕ)
    → has_overflow (sum_flags w a b c) ≡ overflows w (signed_value w a +ℤ signed_value w b +ℤ pos c)
unfolding sum_flags
sum_overflow w a b c = overflow_of _ _ _ _ _ _

pub reads_lt : (b : Bool) (m n : ℕ) → b ≡ nat_lt m n → IsTrue b ↔ m < n
reads_lt b m n e = grind (arith, nat_tests)

pub difference_carry : (w : Width) (a b c : ℕ) → has_carry (difference_flags w a b c) ≡ nat_lt a (b + c)
unfolding difference_flags
difference_carry w a b c = carry_of _ _ _ _ _ _

pub difference_adjust : (w : Width) (a b c : ℕ) → has_adjust (difference_flags w a b c) ≡ nat_lt (a % 16) (b % 16 + c)
unfolding difference_flags
difference_adjust w a b c = adjust_of _ _ _ _ _ _

pub difference_overflow : (w : Width) (a b c : ℕ)
    → has_overflow (difference_flags w a b c) ≡ overflows w (signed_value w a -ℤ signed_value w b -ℤ pos c)
unfolding difference_flags
difference_overflow w a b c = overflow_of _ _ _ _ _ _

-- CF and OF written one after the other, and what a written CF leaves
pub carry_written : (a b : Bool) (f : Flags) → has_carry (with_overflow b (with_carry a f)) ≡ a
carry_written a b f = carry_of _ _ _ _ _ _ ∙ carry_of _ _ _ _ _ _

pub overflow_written : (a b : Bool) (f : Flags) → has_overflow (with_overflow b (with_carry a f)) ≡ b
overflow_written a b f = overflow_of _ _ _ _ _ _

pub parity_left : (b : Bool) (f : Flags) → has_parity (with_carry b f) ≡ has_parity f
parity_left b f = parity_of _ _ _ _ _ _

pub zero_left : (b : Bool) (f : Flags) → has_zero (with_carry b f) ≡ has_zero f
zero_left b f = zero_of _ _ _ _ _ _

pub sign_left : (b : Bool) (f : Flags) → has_sign (with_carry b f) ≡ has_sign f
sign_left b f = sign_of _ _ _ _ _ _

pub product_carry : (a b : ℕ) (f : Flags) → has_carry (product_flags a b f) ≡ nat_le (2 ^ 32) (a * b)
unfolding product_flags
product_carry a b f = carry_written _ _ _

pub product_overflow : (a b : ℕ) (f : Flags) → has_overflow (product_flags a b f) ≡ nat_le (2 ^ 32) (a * b)
unfolding product_flags
product_overflow a b f = overflow_written _ _ _

pub signed_product_carry : (a b : ℕ) (f : Flags)
    → has_carry (signed_product_flags a b f) ≡ overflows D (signed_value D a *ℤ signed_value D b)
unfolding signed_product_flags
signed_product_carry a b f = carry_written _ _ _

pub signed_product_overflow : (a b : ℕ) (f : Flags)
    → has_overflow (signed_product_flags a b f) ≡ overflows D (signed_value D a *ℤ signed_value D b)
unfolding signed_product_flags
signed_product_overflow a b f = overflow_written _ _ _

-- 0 less a number: it overflows for the least number alone
pub negation_overflows : (n : ℕ) → n < 2 ^ 32 → IsOutside D (signed_value D 0 -ℤ signed_value D n -ℤ pos 0) ↔ n ≡ 2 ^ 31
unfolding signed_value
negation_overflows n h = grind (arith, nat_tests, ints)

pub through : (A B C : Type 0) → A ↔ B → B ↔ C → A ↔ C
through A B C p q = (λ a. q.0 (p.0 a), λ c. p.1 (q.1 c))

-- CF and OF written one after the other keep the other four
pub parity_kept : (a b : Bool) (f : Flags) → has_parity (with_overflow b (with_carry a f)) ≡ has_parity f
parity_kept a b f = parity_of _ _ _ _ _ _ ∙ parity_of _ _ _ _ _ _

pub adjust_kept : (a b : Bool) (f : Flags) → has_adjust (with_overflow b (with_carry a f)) ≡ has_adjust f
adjust_kept a b f = adjust_of _ _ _ _ _ _ ∙ adjust_of _ _ _ _ _ _

pub zero_kept : (a b : Bool) (f : Flags) → has_zero (with_overflow b (with_carry a f)) ≡ has_zero f
zero_kept a b f = zero_of _ _ _ _ _ _ ∙ zero_of _ _ _ _ _ _

pub sign_kept : (a b : Bool) (f : Flags) → has_sign (with_overflow b (with_carry a f)) ≡ has_sign f
sign_kept a b f = sign_of _ _ _ _ _ _ ∙ sign_of _ _ _ _ _ _
