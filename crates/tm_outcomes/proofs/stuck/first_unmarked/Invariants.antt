use Rattle.std.proofs.Common.{◌≡◌, ℕ, ◌<◌, length}
use Rattle.tm_outcomes.specs.Marks.{IsMarked}
use Rattle.tm_outcomes.proofs.stuck.first_unmarked.Given as goal

abbrev pub invariant-loop-node : goal.invariant-loop-node
invariant-loop-node l = record {
  end : l.node-end ≡ length l.marked;
  so_far : (node : ℕ) → node < l.node → IsMarked l.marked node;
}
