use Rattle.std.proofs.Common.{◌≡◌, ◌-◌, length}
use Rattle.tm_hist.specs.Board.{SameBoard}
use Rattle.tm_hunt.specs.Runs.{AreLeft, AreMade, AreToldOf, last_core}
use Rattle.tm_hunt.proofs.one_run.step_all.Given as goal

abbrev pub invariant-steps : goal.invariant-steps
invariant-steps g l = record {
  same : SameBoard l.fn.board l.board;
  left : AreLeft l.board l.going;
  last : l.last ≡ last_core 0 l.board.history;
  made : AreMade g.S.StepSource.picks l.fn.source l.source l.board;
  same_kinds : g.S.StepSource.kinds l.source ≡ g.S.StepSource.kinds l.fn.source;
  kinds : AreToldOf (g.S.StepSource.kinds l.fn.source) l.board;
}

abbrev pub decreases-steps : goal.decreases-steps
decreases-steps g l = l.board.limit - length l.board.history
