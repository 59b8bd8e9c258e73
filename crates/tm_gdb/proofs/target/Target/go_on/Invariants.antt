use Rattle.std.proofs.Common.{◌-◌, length}
use Rattle.tm_hist.specs.Board.{SameBoard}
use Rattle.tm_gdb.specs.Moves.{Continues}
use Rattle.tm_gdb.specs.Values.{TargetValue, value_of}
use Rattle.tm_gdb.proofs.target.Target.go_on.Given as goal

-- how the run goes on from here, it goes from its beginning
abbrev pub invariant-steps : goal.invariant-steps
invariant-steps l = record {
  run : (to : TargetValue) → Continues l.goers (value_of l.self) to → Continues l.goers (value_of l.initial.self) to;
  same : SameBoard l.initial.self.board l.self.board;
}

abbrev pub decreases-steps : goal.decreases-steps
decreases-steps l = l.self.board.limit - length l.self.board.history
