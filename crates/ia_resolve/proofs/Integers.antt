-- Whole numbers in two parts are added part by part.
use Rattle.std.proofs.Common.{◌≡◌, Bool, true, false, cond, arith}
use Rattle.std.proofs.lemmas.Int.{ints}
use Rattle.std.specs.Prelude.{◌+ℤ◌, ◌-ℤ◌}
use Rattle.ia_resolve.specs.declared.exact.Exact.{Exact}
use Rattle.ia_resolve.specs.Exactness.{exact_value}

-- both parts are the sums, or the differences, of the parts
pub part_by_part : (negative : Bool) (x y z : Exact) → z.high ≡ cond negative (x.high -ℤ y.high) (x.high +ℤ y.high)
    → z.low ≡ cond negative (x.low -ℤ y.low) (x.low +ℤ y.low)
    → exact_value z ≡ cond negative (exact_value x -ℤ exact_value y) (exact_value x +ℤ exact_value y)
part_by_part true x y z h l = omega (arith, ints, h, l)
part_by_part false x y z h l = omega (arith, ints, h, l)
