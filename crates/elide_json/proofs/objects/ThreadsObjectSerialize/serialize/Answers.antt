use Rattle.std.proofs.Common.{codes}
use Rattle.std.proofs.lemmas.Result.{on_ok_weaker}
use Rattle.elide_object.specs.Object.{number_value}
use Rattle.elide_object.proofs.Sending.{sent_member}
use Rattle.serde_json.specs.Data.{no_members}
use Rattle.elide_json.specs.Objects.{status_member}
use Rattle.elide_json.proofs.objects.ThreadsObjectSerialize.serialize.Goals as goal

pub returns : goal.returns
returns g c =
    let written = g.S.Serializer.written in
    let format = c.in_ok-send_number.ensures in
    let command = c.in_ok-send_text.ensures in
    on_ok_weaker c.end_map.result (λ ended.
    let end = written c.end_map.new.self in
    let last = sent_member (codes "status") (number_value 0) no_members (written c.send.new.out)
    (written c.send_number-2.new.out) end c.in_ok-send_number-2.ensures ended in (
      written c.begin_map.new.self,
      c.in_ok-begin_map.ensures,
      (
        format.0,
        written c.send_number.new.out,
        format.1,
        format.2,
        (
          command.0,
          written c.send_text.new.out,
          command.1,
          command.2,
          c.in_ok-send.ensures (status_member 0) end last,
        ),
      ),
    )) c.end_map.ensures
