use Rattle.std.proofs.Common.{subst}
use Rattle.tm_pick.specs.Kinds.{IsOfKinds}
use Rattle.tm_pick.specs.Lots.{kinds_drawn}
use Rattle.tm_pick.specs.Sources.{kinds_listed}
use Rattle.tm_pick.specs.declared.kinds.Kinds.{Kinds}
use Rattle.tm_pick.proofs.OfKinds.{none_of}
use Rattle.tm_pick.proofs.picker.Picker.next.Goals as goal

pub returns-clause-event : goal.returns-clause-event
returns-clause-event c =
    rw (← c.self.view_is)
    (c.first_of.ensures.kinds (kinds_listed c.self.inside.manner) (kinds_drawn c.self.inside.lot)
    c.next-pick.ensures.event c.next_event-drawn.ensures.kinds)

pub returns-clause-never : goal.returns-clause-never
returns-clause-never c = λ none.
    none_of c.first_of.result
    (subst (λ (kinds : Kinds). IsOfKinds kinds c.first_of.result) none (returns-clause-event c))
