use Rattle.std.proofs.lemmas.Result.{IfOk-weaker}
use Rattle.elide_trial.proofs.dispatch.test.Goals as goal

pub returns : goal.returns
returns g c =
    IfOk-weaker c.tell.result _ _
    (λ r told. record { files = c.in_ok-trials.trials.files.items; tried = c.in_ok-trials.ensures.tried; told = told })
    c.tell.ensures.told
