use Rattle.std.proofs.Common.{◌≡◌, sym, ap, ◌∙◌, subst}
use Rattle.std.specs.Prelude.{slice_set}
use Rattle.tm_work.specs.declared.progress.Progress.{Progress}
use Rattle.tm_work.specs.Seats.{progress_of, LedgerAgrees}
use Rattle.tm_work.proofs.Turns.{same_agrees}
use Rattle.tm_work.proofs.desk_state.DeskState.settle.Goals as goal

pub invariant_of-self : goal.invariant_of-self
invariant_of-self g c =
    let n = c.note.ensures in
    let s = c.self.invariant.0 in
    let given = g.J.DeskIdentity.given in
    let board = c.self.inside.board in
    let ledger = c.self.inside.ledger in
    let seat = c.args.seat in
    let same : progress_of c.steps.result c.last.result c.ended.result ≡ seat.progress =
    λ i. progress_of (c.steps.ensures i) (c.last.ensures i) (c.ended.ensures i) in (
      subst (LedgerAgrees given board) (sym (n.ledger ∙ ap (λ (m : Progress). slice_set ledger seat.core m) same))
          (same_agrees given board ledger seat.core seat.progress s n.was),
      c.self.invariant.1,
    )

pub returns-clause-told : goal.returns-clause-told
returns-clause-told g c = c.self.invariant.0.lines c.args.seat.core c.args.seat.progress c.note.ensures.was
