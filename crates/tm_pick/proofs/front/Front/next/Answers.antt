use Rattle.std.proofs.Common.{None}
use Rattle.tm_pick.proofs.OfKinds.{of_listed}
use Rattle.tm_pick.proofs.front.Front.next.Goals as goal

pub returns-clause-event : goal.returns-clause-event
returns-clause-event c =
    rw (← c.self.view_is)
    (of_listed c.self.inside.steps.now c.in-Some.index record { core = 0; event = None } c.in-Some.ensures)
