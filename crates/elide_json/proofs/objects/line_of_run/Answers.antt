use Rattle.elide_json.proofs.Floats.{no_float_run}
use Rattle.elide_json.specs.Shown.{sent_run}
use Rattle.elide_json.proofs.objects.line_of_run.Goals as goal

pub returns-clause-text : goal.returns-clause-text
returns-clause-text c =
    let o = c.args.object in
    c.in_ok-object_line.ensures (sent_run o) (λ log sent. sent) (no_float_run o)
