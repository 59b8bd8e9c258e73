use Rattle.std.proofs.Common.{refl}
use Rattle.tm_pick.proofs.manner.Manner.next.Goals as goal

pub returns-in-Bursts-clause-picked : goal.returns-in-Bursts-clause-picked
returns-in-Bursts-clause-picked c =
    rw c.in-Bursts.is (c.next-core-in-Bursts.new.self, refl, c.next-core-in-Bursts.ensures.drawn)
