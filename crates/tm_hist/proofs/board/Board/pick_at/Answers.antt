use Rattle.std.proofs.Common.{◌≡◌, ◌<◌, ◌∙◌, ℕ, List, Option, length, ap, subst, sym}
use Rattle.std.specs.Prelude.{IfSome, slice_get}
use Rattle.tm_model.specs.Runs.{picks_of}
use Rattle.tm_model.specs.declared.outcome.Outcome.{Outcome}
use Rattle.tm_model.specs.declared.outcome.Pick.{Pick}
use Rattle.tm_hist.proofs.HistoryCores.{picks_within}
use Rattle.tm_hist.proofs.board.Board.pick_at.Goals as goal

pub returns-clause-exists : goal.returns-clause-exists
returns-clause-exists c =
    let same : c.pick_at.result ≡ slice_get (picks_of c.args.self.now.history) c.args.index =
    c.pick_at.ensures
    ∙ ap (λ (pairs : List (ℕ × Outcome)). slice_get (picks_of pairs) c.args.index) c.history.ensures in
    subst (λ (found : Option Pick). IfSome found (λ pick. pick.core < length c.args.self.now.program.entries))
    (sym same) (picks_within c.args.self.now c.args.index c.is_run.ensures)
