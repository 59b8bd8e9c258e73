-- Powers of two are some.
use Rattle.std.proofs.Common.{ℕ, zero, suc, ◌^◌, ◌<◌, arith}
use Rattle.ia_item.specs.Fits.{IsPower}

some : (k : ℕ) → 0 < 2 ^ k
some zero = omega arith
some (suc k) = omega (arith, some k)

pub power_some : (n : ℕ) → IsPower n → 0 < n
power_some n (k, small, e) = omega (arith, some k, e)
