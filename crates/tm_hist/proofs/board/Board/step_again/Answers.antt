use Rattle.std.proofs.Common.{◌≡◌, ◌∙◌, Option, Some, subst, sym}
use Rattle.std.specs.List.{slice_get}
use Rattle.tm_hist.specs.Board.{IsOwedNext}
use Rattle.tm_model.specs.declared.outcome.Event.{Event}
use Rattle.tm_model.specs.Runs.{picks_of}
use Rattle.tm_hist.proofs.Owed.{first_more, told_at}
use Rattle.tm_hist.proofs.board.Board.step_again.Goals as goal

pub returns : goal.returns
returns c =
    let at : slice_get (picks_of c.args.whole.now.history) c.args.made ≡ Some c.in-Some.pick =
    sym c.pick_at.ensures.pick ∙ c.in-Some.is in
    let told = told_at c.args.whole.now.history c.args.made c.in-Some.pick at in
    first_more c.args.whole.now c.args.self.now c.step_by.new.self c.args.made c.in-Some.pick.core told.outcome
    c.in-Ok._outcome told.at c.is_run.ensures c.requires.so_far c.step_by.ensures.same c.in-Ok.ensures.ok
    (subst (λ (e : Option Event). IsOwedNext e c.args.self.now c.in-Some.pick.core c.in-Ok._outcome) (sym told.event)
    c.in-Ok.ensures.owed)
