use Rattle.std.proofs.Common.{◌≡◌, ◌+◌, ◌≤◌, length}
use Rattle.tm_outcomes.specs.Marks.{unmarked}
use Rattle.tm_outcomes.proofs.stuck.count_unmarked.Given as goal

abbrev pub invariant-nodes : goal.invariant-nodes
invariant-nodes l = record {
  total : l.count + unmarked l.left ≡ unmarked l.marked;
  few : l.count + length l.left ≤ length l.marked;
}

abbrev pub decreases-nodes : goal.decreases-nodes
decreases-nodes l = length l.left
