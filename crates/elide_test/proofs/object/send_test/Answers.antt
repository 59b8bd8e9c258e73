use Rattle.std.proofs.Common.{codes}
use Rattle.std.proofs.lemmas.Result.{on_ok_weaker}
use Rattle.elide_object.proofs.Sending.{sent_equal}
use Rattle.elide_object.specs.Object.{number_value}
use Rattle.serde_json.specs.Data.{boolean, string}
use Rattle.std.specs.Prelude.{string_bytes}
use Rattle.elide_test.specs.Answers.{is_met}
use Rattle.elide_test.proofs.object.send_test.Goals as goal

pub returns : goal.returns
returns g c =
    let written = g.S.Serializer.written in
    let test = c.args.test.now in
    let line = c.in_ok-send_number.ensures in
    let word = sent_equal (codes "command") string _ (string_bytes test.word) _ _
    c.as_str.ensures.value c.in_ok-send_text.ensures in
    let met = sent_equal (codes "ok") boolean _ (is_met test) _ _ c.is_met.ensures c.in_ok-send_flag.ensures in
    let unmet = c.in_ok-send_unmet.ensures in
    let status = sent_equal (codes "status") number_value _ test.status _ _ c.from.ensures
    c.in_ok-send_number-2.ensures in
    let refusal = c.in_ok-send_refusal.ensures in
    on_ok_weaker c.end_map.result
    (λ ended. (
      written c.begin_map.new.self,
      c.in_ok-begin_map.ensures,
      (
        line.0,
        written c.send_number.new.out,
        line.1,
        line.2,
        (
          word.0,
          written c.send_text.new.out,
          word.1,
          word.2,
          (
            met.0,
            written c.send_flag.new.out,
            met.1,
            met.2,
            (
              unmet.0,
              written c.send_unmet.new.out,
              unmet.1,
              unmet.2,
              (
                status.0,
                written c.send_number-2.new.out,
                status.1,
                status.2,
                (refusal.0, written c.send_refusal.new.out, refusal.1, refusal.2, ended),
              ),
            ),
          ),
        ),
      ),
    ))
    c.end_map.ensures
