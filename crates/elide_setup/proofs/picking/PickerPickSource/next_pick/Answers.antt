use Rattle.std.proofs.Common.{[], ◌∷◌, ◌++◌, subst, sym}
use Rattle.tm_pick.specs.Drawn.{AreDrawn}
use Rattle.tm_pick.specs.declared.kinds.Kinds.{Kinds}
use Rattle.elide_setup.proofs.Drawing.{come_under, under_next}
use Rattle.elide_setup.proofs.picking.PickerPickSource.next_pick.Goals as goal

pub returns-clause-behind : goal.returns-clause-behind
returns-clause-behind c drawn picks h = (
  h.0,
  subst (λ (kinds : Kinds). AreDrawn drawn.events kinds) (sym c.next.ensures.same) h.1,
  under_next drawn.events c.args.self.now.kinds picks c.next.result h.1 c.next.ensures.event c.next.ensures.never h.2,
)

pub returns-clause-come : goal.returns-clause-come
returns-clause-come c drawn picks h =
    come_under drawn (picks ++ c.next.result ∷ []) h.0
    (under_next drawn.events c.args.self.now.kinds picks c.next.result h.1 c.next.ensures.event c.next.ensures.never
    h.2)
