use Rattle.std.proofs.Common.{◌≡◌, ◌≤◌, length}
use Rattle.std.specs.Prelude.{vec_capacity}
use Rattle.tm_work.specs.Seats.{HaveNoProgress, AreSeats}
use Rattle.tm_work.proofs.desk.Desk.open.Given as goal

abbrev pub invariant-loop-core : goal.invariant-loop-core
invariant-loop-core g l = record {
  ledger : HaveNoProgress l.ledger;
  lines : length l.ledger ≡ l.core;
  seats : AreSeats l.seats.items l.core;
  room : l.cores ≤ vec_capacity l.seats;
}
