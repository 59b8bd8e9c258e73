use Rattle.std.proofs.Common.{codes, ◌∙◌}
use Rattle.std.proofs.lemmas.Result.{on_ok_weaker}
use Rattle.ia_word.specs.Width.{bytes_of}
use Rattle.elide_object.specs.Object.{number_value}
use Rattle.elide_object.proofs.Sending.{sent_equal}
use Rattle.elide_json.proofs.cores.send_store.Goals as goal

pub returns : goal.returns
returns g c =
    let written = g.S.Serializer.written in
    let address =
    sent_equal (codes "address") number_value _ c.args.address _ _ c.from.ensures c.in_ok-send_number.ensures in
    let value =
    sent_equal (codes "value") number_value _ c.args.value _ _ c.from-2.ensures c.in_ok-send_number-2.ensures in
    let width = sent_equal (codes "width") number_value _ (bytes_of c.args.width) _ _
    (c.from-3.ensures ∙ c.bytes.ensures) c.in_ok-send_number-3.ensures in
    on_ok_weaker c.end_map.result (λ ended. (
      written c.begin_map.new.self,
      c.in_ok-begin_map.ensures,
      (
        address.0,
        written c.send_number.new.out,
        address.1,
        address.2,
        (
          value.0,
          written c.send_number-2.new.out,
          value.1,
          value.2,
          (
            width.0,
            written c.send_number-3.new.out,
            width.1,
            width.2,
            ended,
          ),
        ),
      ),
    )) c.end_map.ensures
