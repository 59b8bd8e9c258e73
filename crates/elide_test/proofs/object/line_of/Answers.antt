use Rattle.std.proofs.lemmas.Result.{IfOk-weaker}
use Rattle.elide_test.proofs.Objects.{no_float_tests}
use Rattle.elide_test.specs.Object.{tests_value}
use Rattle.elide_test.proofs.object.line_of.Goals as goal

pub returns : goal.returns
returns c =
    let files = c.args.files.now in
    IfOk-weaker c.object_line.result _ _
    (λ line texts. texts (tests_value files) (λ log sent. sent) (no_float_tests files)) c.object_line.ensures
