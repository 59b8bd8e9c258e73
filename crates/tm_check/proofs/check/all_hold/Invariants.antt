use Rattle.std.specs.List.{AllWithin}
use Rattle.tm_check.specs.Checks.{HoldsAt}
use Rattle.tm_check.proofs.check.all_hold.Given as goal

abbrev pub invariant-loop-clause : goal.invariant-loop-clause
invariant-loop-clause l = AllWithin (HoldsAt l.board) l.clauses 0 l.clause-index
