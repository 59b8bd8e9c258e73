use Rattle.std.proofs.lemmas.Result.{on_ok_weaker}
use Rattle.elide_object.specs.Object.{number_value}
use Rattle.elide_object.proofs.Sending.{sent_list}
use Rattle.elide_object.proofs.members.send_numbers.Goals as goal

pub returns : goal.returns
returns g c =
    on_ok_weaker c.serialize.result
    (λ sent. (_, c.in_ok-key.ensures, sent_list number_value c.args.numbers.now _ _ sent)) c.serialize.ensures
