use Rattle.std.proofs.Common.{◌≡◌, ◌+◌}
use Rattle.tm_pick.specs.Drawn.{AreDrawn}
use Rattle.tm_work.proofs.manner.Steady.work_by.Given as goal

abbrev pub invariant-loop-left : goal.invariant-loop-left
invariant-loop-left g l = record {
  steps : l.seat.progress.steps + l.left ≡ l.fn.budget;
  core : l.seat.core ≡ l.initial.seat.core;
  events : AreDrawn g.J.DeskIdentity.events (g.T.Turns.kinds l.turns);
}

abbrev pub decreases-loop-left : goal.decreases-loop-left
decreases-loop-left g l = l.left
