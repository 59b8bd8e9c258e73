use Rattle.std.proofs.Common.{◌≡◌, List, Some, sym, subst}
use Rattle.std.specs.Prelude.{slice_get, slice_set}
use Rattle.tm_work.specs.declared.progress.Progress.{Progress}
use Rattle.tm_work.specs.Seats.{LedgerAgrees}
use Rattle.tm_work.proofs.Disturbed.{alone_disturbed}
use Rattle.tm_work.proofs.desk_state.DeskState.turns.Goals as goal

pub invariant_of-self : goal.invariant_of-self
invariant_of-self g c =
    let n = c.note.ensures in
    let core = c.core.ensures.is in
    let progress = c.progress-progress.ensures in
    let here = n.was in
    let written = n.ledger in
    let was : slice_get c.self.inside.ledger c.core.result ≡ Some c.progress-progress.result = cc in
    let is : c.note.new.ledger ≡ slice_set c.self.inside.ledger c.core.result c.make_steps-made.new.progress = cc in (
      subst (λ (l : List Progress). LedgerAgrees g.J.DeskIdentity.given c.make_steps-made.new.board l) (sym is)
          (c.make_steps-made.ensures.made.agrees _ _ c.self.invariant.0 was),
      alone_disturbed g.J.DeskIdentity.events _ _ _ _ _ _ _ c.self.invariant.0.goes_on c.make_steps-made.ensures.made
          c.self.invariant.1,
    )
