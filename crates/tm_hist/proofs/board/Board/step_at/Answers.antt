use Rattle.std.proofs.Common.{◌≡◌, ◌<◌, ◌∙◌, ℕ, List, Option, length, ap, subst, sym}
use Rattle.std.specs.Prelude.{IfSome, slice_get}
use Rattle.tm_model.specs.declared.outcome.Outcome.{Outcome}
use Rattle.tm_hist.proofs.HistoryCores.{steps_within}
use Rattle.tm_hist.proofs.board.Board.step_at.Goals as goal

pub returns-clause-exists : goal.returns-clause-exists
returns-clause-exists c =
    let same : c.get.result ≡ slice_get c.args.self.now.history c.args.index =
    c.get.ensures
    ∙ ap (λ (pairs : List (ℕ × Outcome)). slice_get pairs c.args.index) c.history.ensures in
    subst (λ (found : Option (ℕ × Outcome)). IfSome found (λ pair. pair.0 < length c.args.self.now.program.entries))
    (sym same) (steps_within c.args.self.now c.args.index c.is_run.ensures)
