use Rattle.std.proofs.lemmas.Result.{IfOk-weaker}
use Rattle.elide_hunt.proofs.Objects.{no_float_object}
use Rattle.elide_hunt.specs.Sent.{object_value}
use Rattle.elide_hunt.proofs.object.line_of.Goals as goal

pub returns : goal.returns
returns c =
    let o = c.args.object.now in
    IfOk-weaker c.object_line.result _ _ (λ line texts. texts (object_value o) (λ log sent. sent) (no_float_object o))
    c.object_line.ensures
