use Rattle.std.proofs.Common.{◌≢◌, ℕ, ◌<◌, get_or}
use Rattle.tm_outcomes.specs.declared.violations.Violation.{Violation}
use Rattle.tm_outcomes.proofs.violations.is_told.Given as goal

-- none so far is of this check
abbrev pub invariant-loop-told : goal.invariant-loop-told
invariant-loop-told l =
    (index : ℕ) (other : Violation) → index < l.told-index → (get_or l.violations index other).check ≢ l.check
