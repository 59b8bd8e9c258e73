use Rattle.std.proofs.Common.{◌+◌, ◌%◌, ◌^◌, ℕ, length}
use Rattle.std.specs.Prelude.{Option, option_map}
use Rattle.elide_program.specs.Sums.{IsSumBehind}
use Rattle.elide_program.proofs.sums.sum_behind.Given as goal

-- what stands behind the sign comes onto the sum so far
abbrev pub invariant-terms : goal.invariant-terms
invariant-terms l = (value : Option ℕ) → IsSumBehind l.file l.sign l.rest value
    → IsSumBehind l.file l.first l.text (option_map (λ v. (l.sum + v) % 2 ^ 32) value)

abbrev pub decreases-terms : goal.decreases-terms
decreases-terms l = length l.rest
