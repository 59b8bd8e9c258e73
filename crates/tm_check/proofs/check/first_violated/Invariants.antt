use Rattle.std.specs.List.{AllWithin}
use Rattle.tm_check.specs.Checks.{IsViolated}
use Rattle.tm_check.proofs.check.first_violated.Given as goal

abbrev pub invariant-loop-index : goal.invariant-loop-index
invariant-loop-index l = AllWithin (λ check. ¬ (IsViolated l.board check)) l.checks 0 l.index
