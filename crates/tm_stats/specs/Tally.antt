-- Totals by key.
use Rattle.std.specs.Prelude.{ℕ, ◌+◌, Bool, if◌then◌else◌, unwrap_or}
use Rattle.std.specs.HashMap.{HashMap, get}

-- one more where a test holds
abbrev pub counted : Bool → ℕ → ℕ
counted test n = if test then n + 1 else n

-- the total of a key, 0 where it has none
abbrev pub total_of : {K S : Type 0} → (K → K → Bool) → HashMap K ℕ S → K → ℕ
total_of eq tally key = unwrap_or (get eq tally key) 0
