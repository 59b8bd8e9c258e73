use Rattle.elide_json.proofs.Floats.{no_float_replay}
use Rattle.elide_json.specs.Shown.{sent_replay}
use Rattle.elide_json.proofs.objects.line_of_replay.Goals as goal

pub returns-clause-text : goal.returns-clause-text
returns-clause-text c =
    let o = c.args.object in
    c.in_ok-object_line.ensures (sent_replay o) (λ log sent. sent) (no_float_replay o)
