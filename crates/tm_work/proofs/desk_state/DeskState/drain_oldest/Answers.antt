use Rattle.std.proofs.Common.{ap, ◌∙◌, None, inr}
use Rattle.std.specs.Prelude.{slice_set}
use Rattle.tm_work.specs.declared.progress.Progress.{Progress}
use Rattle.tm_work.proofs.Disturbed.{some_kinds, step_disturbed}
use Rattle.tm_work.proofs.Turns.{no_wrap, progress_of_turn, turned}
use Rattle.tm_work.proofs.desk_state.DeskState.drain_oldest.Goals as goal

-- as of a turn: a drain is no abort
pub invariant_of-self-2 : goal.invariant_of-self-2
invariant_of-self-2 g c =
    let n = c.note.ensures in
    let seat = c.args.seat.now in
    let m = c.in-Some.ensures.some in
    let fits = no_wrap _ _ _ _ seat.progress c.self.invariant.0 n.was m.room m.limited in
    let same = progress_of_turn seat.progress c.steps-steps.result c.in-Some.receipt c.ended.result
    c.steps-steps.ensures c.ended.ensures fits in
    let drawn = some_kinds g.J.DeskIdentity.events in (
      turned _ _ _ _ _ _ _ seat.progress c.in-Some.receipt c.self.invariant.0 c.core.ensures.is m n.was
          (n.ledger ∙ ap (λ (k : Progress). slice_set c.self.inside.ledger seat.core k) same),
      step_disturbed g.J.DeskIdentity.events drawn.0 None _ _ _ _ c.in-Some.receipt c.self.invariant.0.goes_on m
          drawn.1 tt (inr (inr c.in-Some.ensures.drained)) c.self.invariant.1,
    )
