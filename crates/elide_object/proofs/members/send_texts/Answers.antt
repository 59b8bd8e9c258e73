use Rattle.std.proofs.lemmas.Result.{on_ok_weaker}
use Rattle.elide_object.proofs.Sending.{sent_texts}
use Rattle.elide_object.proofs.members.send_texts.Goals as goal

pub returns : goal.returns
returns g c =
    on_ok_weaker c.serialize.result (λ sent. (_, c.in_ok-key.ensures, sent_texts c.args.texts.now _ _ sent))
    c.serialize.ensures
