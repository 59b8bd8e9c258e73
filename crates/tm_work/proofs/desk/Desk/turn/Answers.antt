use Rattle.tm_work.proofs.Disturbed.{some_kinds}
use Rattle.tm_work.proofs.desk.Desk.turn.Goals as goal

pub turn-requires : goal.turn-requires
turn-requires g c = let some = some_kinds g.J.DeskIdentity.events in record { event = (some.0, some.1, tt) }
