-- What a call that reads from a device does.
use Rattle.std.specs.Prelude.{◌≡◌, ℕ, ◌≤◌, List, Option, Result, MatchResult, length, take}
use Rattle.std.specs.Io.KnownBytes.{Consumes, IsAtEnd, Keeps}
use Rattle.text_out.specs.Writing.{Rose}

-- some bytes are read and no failure is counted, none only at the end, or none are and the count of failures rose
abbrev pub Reads : {E : Type 0} → Option (List ℕ) → ℕ → Option (List ℕ) → ℕ → List ℕ → Result ℕ E → Type 0
Reads old failed new failed_after buf result =
    MatchResult result
    (λ n. (n ≤ length buf) × Consumes old new (take n buf) × (n ≡ 0 → IsAtEnd new) × (failed_after ≡ failed))
    (λ _. Keeps old new × Rose failed failed_after)
