use Rattle.std.proofs.Common.{◌<◌, ◌≤◌, ◌-◌, length}
use Rattle.tm_hist.specs.Board.{AreSteps}
use Rattle.tm_hist.proofs.board.Board.steps.Given as goal

abbrev pub invariant-loop-made : goal.invariant-loop-made
invariant-loop-made l = record {
  made : AreSteps l.initial.self l.self l.core l.made;
  exists : l.core < length l.self.program.entries;
  most : l.made ≤ l.most;
}

abbrev pub decreases-loop-made : goal.decreases-loop-made
decreases-loop-made l = l.most - l.made
