use Rattle.std.proofs.Common.{◌+◌, ◌-◌, length}
use Rattle.tm_outcomes.specs.Marks.{IsPassing, unmarked}
use Rattle.tm_outcomes.proofs.marks.marks_of.Given as goal

abbrev pub invariant-nodes : goal.invariant-nodes
invariant-nodes l = IsPassing l.links l.ends l.nodes l.marks l.done

abbrev pub decreases-nodes : goal.decreases-nodes
decreases-nodes l = unmarked l.marks.marked.items + (length l.marks.queue.items - l.done)
