use Rattle.std.proofs.lemmas.Result.{IfOk-weaker}
use Rattle.elide_json.proofs.Floats.{no_float_outcome}
use Rattle.elide_json.specs.Outcomes.{outcome_value}
use Rattle.elide_json.proofs.outcomes.text_of_row.Goals as goal

pub returns : goal.returns
returns c =
    let row = c.args.row in
    IfOk-weaker c.text_of.result _ _
    (λ text texts. texts (outcome_value row.step row.core row.outcome) (λ log sent. sent)
    (no_float_outcome row.step row.core row.outcome))
    c.text_of.ensures
