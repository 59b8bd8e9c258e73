use Rattle.std.proofs.Common.{codes}
use Rattle.std.proofs.lemmas.Result.{on_ok_weaker}
use Rattle.elide_object.specs.Object.{number_value}
use Rattle.elide_object.proofs.Sending.{sent_equal}
use Rattle.elide_hunt.proofs.sending.send_runs.Goals as goal

pub returns : goal.returns
returns g c =
    let written = g.S.Serializer.written in
    let ended = sent_equal (codes "ended") number_value _ c.args.ended _ _ c.from.ensures c.in_ok-send_number.ensures in
    let cut = sent_equal (codes "cut") number_value _ c.args.cut _ _ c.from-2.ensures c.in_ok-send_number-2.ensures in
    on_ok_weaker c.end_map.result (λ last. (
      written c.key.new.self,
      c.in_ok-key.ensures,
      (
        written c.begin_map.new.self,
        c.in_ok-begin_map.ensures,
        (
          ended.0,
          written c.send_number.new.out,
          ended.1,
          ended.2,
          (cut.0, written c.send_number-2.new.out, cut.1, cut.2, last),
        ),
      ),
    )) c.end_map.ensures
