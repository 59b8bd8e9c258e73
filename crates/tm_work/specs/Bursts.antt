-- How many steps a worker makes under one lock.
use Rattle.std.specs.Prelude.{◌≡◌, ℕ, ◌<◌, ◌≤◌, max}
use Rattle.tm_work.specs.declared.manner.Burst.{Burst}
use Rattle.tm_work.specs.declared.manner.Burst.TheVariants.{Fixed, Varying}

-- how many may come next where so many were made: always as many as are fixed, but at least one; or one to three at
-- first, and then 17 to 47
abbrev pub IsBurst : Burst → ℕ → ℕ → Type 0
IsBurst (Fixed steps) done next = next ≡ max steps 1
IsBurst Varying done next = (done < 64 → (1 ≤ next) × (next ≤ 3)) × (64 ≤ done → (17 ≤ next) × (next ≤ 47))
