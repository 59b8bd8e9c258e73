use Rattle.std.proofs.Common.{sym, subst}
use Rattle.tm_core.specs.Reopening.{IsSameElsewhere}
use Rattle.tm_outcomes.proofs.place.Place.is_alike.Goals as goal

pub are_same-requires-clause-these : goal.are_same-requires-clause-these
are_same-requires-clause-these c =
    subst (λ memory. IsSameElsewhere c.as_slice-2.result.now memory c.as_slice.result.now) (sym c.view.ensures)
    (subst (λ lines. IsSameElsewhere lines c.args.self.now.machine.memory c.as_slice.result.now)
    (sym c.as_slice-2.ensures.value)
    (subst (λ opening. IsSameElsewhere c.args.written.now.lines.items c.args.self.now.machine.memory opening)
    (sym c.as_slice.ensures.value) c.requires.memory))

pub are_same-requires-clause-those : goal.are_same-requires-clause-those
are_same-requires-clause-those c =
    subst (λ memory. IsSameElsewhere c.as_slice-2.result.now memory c.as_slice.result.now) (sym c.view-2.ensures)
    (subst (λ lines. IsSameElsewhere lines c.args.other.now.machine.memory c.as_slice.result.now)
    (sym c.as_slice-2.ensures.value)
    (subst (λ opening. IsSameElsewhere c.args.written.now.lines.items c.args.other.now.machine.memory opening)
    (sym c.as_slice.ensures.value) c.requires.others))
