-- Violations that are told.
use Rattle.std.proofs.Common.{ℕ, List, ◌++◌, ◌∙◌, arith, length-append}
use Rattle.std.proofs.lemmas.List.{get_or_append_left}
use Rattle.tm_outcomes.specs.Verdicts.{IsViolationTold}
use Rattle.tm_outcomes.specs.declared.violations.Violation.{Violation}

-- with more they are told still
pub told_more : (violations more : List Violation) (check : ℕ) → IsViolationTold violations check →
    IsViolationTold (violations ++ more) check
told_more violations more check told = (
  told.0,
  told.1,
  (let below = told.2 in let long = length-append violations more in omega arith),
  get_or_append_left violations more told.1 told.0 told.2 ∙ told.3,
  told.4,
)
