use Rattle.std.proofs.Common.{List, ℕ, subst, ap, ◌∙◌}
use Rattle.std.specs.Option.{option_copied}
use Rattle.std.proofs.lemmas.Result.{IfOk-weaker}
use Rattle.elide_args.specs.Asked.{texts_of}
use Rattle.elide_trial.specs.Came.{CameTo}
use Rattle.elide_trial.proofs.trial.try_test.Goals as goal

pub returns : goal.returns
returns g c =
    let Came : List (List ℕ) → Type 0 = λ words.
    CameTo (goal.C-post g c.args.call.now) c.args.paths.now (option_copied c.args.folder) words c.in_ok-ended.ended in
    let came = subst Came (ap texts_of c.as_slice.ensures.value ∙ c.in_ok-words.ensures) c.in_ok-ended.ensures in
    IfOk-weaker c.report_of.result _ _
    (λ report judged. record { ended = c.in_ok-ended.ended; came = came; judged = judged }) c.report_of.ensures
