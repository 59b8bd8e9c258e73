use Rattle.std.proofs.Common.{◌≡◌, true, sym, ap, ◌∙◌, subst}
use Rattle.std.specs.Prelude.{slice_set}
use Rattle.tm_work.specs.declared.progress.Progress.{Progress}
use Rattle.tm_work.specs.Seats.{IsDisturbed, progress_of, progress_at_end}
use Rattle.tm_work.proofs.Disturbed.{step_disturbed}
use Rattle.tm_work.proofs.Turns.{turned, looked, no_wrap, progress_of_turn, last_before}
use Rattle.tm_work.proofs.desk_state.DeskState.turn.Goals as goal

pub invariant_of-self : goal.invariant_of-self
invariant_of-self g c =
    let n = c.note.ensures in
    let seat = c.args.seat.now in
    let m = c.in_default.ensures.none in
    let same : progress_of c.steps.result c.last.result true ≡ progress_at_end seat.progress =
    λ i. progress_of (c.steps.ensures i) (c.last.ensures i) true in (
      looked _ _ _ _ _ _ _ seat.progress c.self.invariant.0 c.core.ensures.is m.0 m.1 n.was
          (n.ledger ∙ ap (λ (k : Progress). slice_set c.self.inside.ledger seat.core k) same),
      subst (IsDisturbed g.J.DeskIdentity.events g.J.DeskIdentity.given) (sym m.0) c.self.invariant.1,
    )

pub invariant_of-self-2 : goal.invariant_of-self-2
invariant_of-self-2 g c =
    let n = c.note-2.ensures in
    let seat = c.args.seat.now in
    let m = c.in-Some.ensures.some in
    let fits = no_wrap _ _ _ _ seat.progress c.self.invariant.0 n.was m.room m.limited in
    let same = progress_of_turn seat.progress c.steps-steps.result c.in-Some.receipt c.ended.result
    c.steps-steps.ensures c.ended.ensures fits in
    let drawn = c.requires.event in (
      turned _ _ _ _ _ _ _ seat.progress c.in-Some.receipt c.self.invariant.0 c.core.ensures.is m n.was
          (n.ledger ∙ ap (λ (k : Progress). slice_set c.self.inside.ledger seat.core k) same),
      step_disturbed g.J.DeskIdentity.events drawn.0 c.args.event _ _ _ _ c.in-Some.receipt c.self.invariant.0.goes_on m
          drawn.1 drawn.2 c.in-Some.ensures.told c.self.invariant.1,
    )

pub returns-clause-turn : goal.returns-clause-turn
returns-clause-turn g c =
    let n = c.note-2.ensures in
    let seat = c.args.seat.now in
    let m = c.in-Some.ensures.some in
    let fits = no_wrap _ _ _ _ seat.progress c.self.invariant.0 n.was m.room m.limited in
    record {
      core = ap (λ s. s.core) n.seat;
      some = ap (λ s. s.progress) n.seat
          ∙ progress_of_turn seat.progress c.steps-steps.result c.in-Some.receipt c.ended.result c.steps-steps.ensures
          c.ended.ensures fits;
      going = m.going;
      later = last_before _ _ _ _ seat.progress _ c.self.invariant.0 n.was m.index;
      none = tt;
    }
