use Rattle.std.proofs.Common.{sym, subst}
use Rattle.std.specs.Prelude.{All}
use Rattle.tm_hist.specs.Board.{ShownBoard}
use Rattle.tm_work.specs.Seats.{SeatTells}
use Rattle.tm_work.proofs.desk.Desk.close.Goals as goal

pub returns-clause-seats : goal.returns-clause-seats
returns-clause-seats g c =
    subst (λ (b : ShownBoard). All (SeatTells g.J.DeskIdentity.given b) c.args.seats.items)
    (sym c.into_board.ensures.is) c.settle_all.ensures.told
