use Rattle.tm_hist.specs.Back.{IsFirst}
use Rattle.tm_hist.specs.Board.{IsHistory}
use Rattle.tm_gdb.specs.Back.{EndsBack}
use Rattle.tm_gdb.specs.Values.{value_of}
use Rattle.tm_gdb.proofs.target.Target.last_place.Given as goal

-- the steps so far are the first of the history, and this is where a run back from behind them ends
abbrev pub invariant-steps : goal.invariant-steps
invariant-steps l = record {
  first : IsFirst l.self.board l.made l.board;
  law : IsHistory l.board;
  ends : EndsBack (value_of l.self) l.made l.place;
}
