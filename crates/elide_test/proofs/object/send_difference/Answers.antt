use Rattle.std.proofs.Common.{codes}
use Rattle.std.proofs.lemmas.Result.{on_ok_weaker}
use Rattle.elide_object.proofs.Sending.{sent_equal}
use Rattle.serde_json.specs.Data.{string}
use Rattle.std.specs.Prelude.{string_bytes}
use Rattle.elide_test.proofs.object.send_difference.Goals as goal

pub returns : goal.returns
returns g c =
    let written = g.S.Serializer.written in
    let line = c.in_ok-send_number.ensures in
    let text = sent_equal (codes "expected") string _ (string_bytes c.args.difference.now.expected) _ _
    c.as_str.ensures.value c.in_ok-send_text.ensures in
    on_ok_weaker c.end_map.result
    (λ ended. (
      written c.begin_map.new.self,
      c.in_ok-begin_map.ensures,
      (
        line.0,
        written c.send_number.new.out,
        line.1,
        line.2,
        (text.0, written c.send_text.new.out, text.1, text.2, ended),
      ),
    ))
    c.end_map.ensures
