use Rattle.std.proofs.Common.{◌≡◌}
use Rattle.std.specs.Prelude.{All}
use Rattle.tm_work.specs.Seats.{SeatTells}
use Rattle.tm_work.proofs.desk_state.DeskState.settle_all.Given as goal

abbrev pub invariant-loop-seat : goal.invariant-loop-seat
invariant-loop-seat g l = record {
  same : l.self.0 ≡ l.initial.self.0;
  told : All (SeatTells g.J.DeskIdentity.given l.self.0) l.yielded;
}
