use Rattle.std.proofs.Common.{codes, string_bytes}
use Rattle.std.proofs.lemmas.Result.{on_ok_weaker}
use Rattle.elide_object.specs.Object.{number_value}
use Rattle.elide_object.proofs.Sending.{sent_equal}
use Rattle.serde_json.specs.Data.{string}
use Rattle.elide_json.proofs.memory.send_show.Goals as goal

pub returns : goal.returns
returns g c =
    let written = g.S.Serializer.written in
    let row = c.args.row.now in
    let at =
    sent_equal (codes "at") string _ (string_bytes row.at) _ _ c.as_str.ensures.value c.in_ok-send_text.ensures in
    let address =
    sent_equal (codes "address") number_value _ row.address _ _ c.from.ensures c.in_ok-send_number.ensures in
    let value =
    sent_equal (codes "value") number_value _ row.value _ _ c.from-2.ensures c.in_ok-send_number-2.ensures in
    on_ok_weaker c.end_map.result (λ ended. (
      written c.begin_map.new.self,
      c.in_ok-begin_map.ensures,
      (
        at.0,
        written c.send_text.new.out,
        at.1,
        at.2,
        (
          address.0,
          written c.send_number.new.out,
          address.1,
          address.2,
          (
            value.0,
            written c.send_number-2.new.out,
            value.1,
            value.2,
            ended,
          ),
        ),
      ),
    )) c.end_map.ensures
