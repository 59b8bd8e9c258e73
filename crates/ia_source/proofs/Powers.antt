-- Powers of two are small.
use Rattle.std.proofs.Common.{◌≡◌, ℕ, ◌<◌, ◌^◌, true, arith}
use Rattle.ia_source.specs.Statements.{is_power}

pub small_power : (n : ℕ) → is_power n ≡ true → n < 2 ^ 32
small_power n e = grind (arith, e)
