use Rattle.std.specs.List.{AllWithin}
use Rattle.tm_condition.specs.Conditions.{Holds, seen_of}
use Rattle.tm_condition.proofs.clause.all_hold.Given as goal

abbrev pub invariant-loop-clause : goal.invariant-loop-clause
invariant-loop-clause l = AllWithin (Holds (seen_of l.machine)) l.clauses 0 l.clause-index
