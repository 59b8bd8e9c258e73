use Rattle.std.proofs.Common.{refl}
use Rattle.tm_pick.proofs.picker.next_event.Goals as goal

pub returns-in-Some-clause-drawn : goal.returns-in-Some-clause-drawn
returns-in-Some-clause-drawn c = rw c.in-Some.is (c.next.new.self, refl, c.next.ensures.drawn)
