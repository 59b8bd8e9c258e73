use Rattle.tm_outcomes.proofs.Passing.{AreFirst}
use Rattle.tm_outcomes.proofs.marks.Marks.of_ends.Given as goal

abbrev pub invariant-loop-node : goal.invariant-loop-node
invariant-loop-node l = AreFirst l.ends l.initial.marks l.marks l.node-index
