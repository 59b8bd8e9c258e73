-- What a device that gathers holds.
use Rattle.std.specs.Prelude.{ℕ, ◌==◌, List, Option, if◌then◌else◌}
use Rattle.std.specs.Io.KnownBytes.{append_known}

-- the row behind what was handed on, which is what the other device holds, or after a failure what it held before
abbrev pub told : Option (List ℕ) → Option (List ℕ) → ℕ → List ℕ → Option (List ℕ)
told now before failures row = append_known (if failures == 0 then now else before) row
