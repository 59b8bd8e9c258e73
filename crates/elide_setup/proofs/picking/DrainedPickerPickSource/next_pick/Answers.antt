use Rattle.std.proofs.Common.{[], ◌∷◌, ◌++◌, subst, sym}
use Rattle.tm_pick.specs.Drawn.{AreDrawn}
use Rattle.tm_pick.specs.declared.kinds.Kinds.{Kinds}
use Rattle.elide_setup.proofs.Drawing.{come_drained, drained_next}
use Rattle.elide_setup.proofs.picking.DrainedPickerPickSource.next_pick.Goals as goal

pub returns-clause-behind : goal.returns-clause-behind
returns-clause-behind c drawn picks h = (
  h.0,
  subst (λ (kinds : Kinds). AreDrawn drawn.events kinds) (sym c.next-pick.ensures.same) h.1,
  drained_next drawn c.args.self.now.picker.kinds c.args.self.now.drains c.befall.new.self picks c.next-pick.result
      c.befall.result h.1 c.next-pick.ensures.event c.next-pick.ensures.never c.befall.ensures.core
      c.befall.ensures.event h.2,
)

pub returns-clause-come : goal.returns-clause-come
returns-clause-come c drawn picks h =
    come_drained drawn c.befall.new.self (picks ++ c.befall.result ∷ []) h.0
    (drained_next drawn c.args.self.now.picker.kinds c.args.self.now.drains c.befall.new.self picks c.next-pick.result
    c.befall.result h.1 c.next-pick.ensures.event c.next-pick.ensures.never c.befall.ensures.core
    c.befall.ensures.event h.2)
