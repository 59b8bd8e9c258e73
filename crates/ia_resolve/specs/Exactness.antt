-- What numbers in two parts stand for.
use Rattle.std.specs.Prelude.{ℕ, ◌^◌, ℤ, pos, neg_ℤ, ◌+ℤ◌, ◌*ℤ◌, ◌≤ℤ◌}
use Rattle.ia_resolve.specs.declared.exact.Exact.{Exact}

-- the whole number that two parts hold
abbrev pub exact_value : Exact → ℤ
exact_value x = (x.high *ℤ pos (2 ^ 64)) +ℤ x.low

-- each part is at most n from 0
abbrev pub IsNear : ℕ → Exact → Type 0
IsNear n x = (neg_ℤ (pos n) ≤ℤ x.high) × (x.high ≤ℤ pos n) × (neg_ℤ (pos n) ≤ℤ x.low) × (x.low ≤ℤ pos n)
