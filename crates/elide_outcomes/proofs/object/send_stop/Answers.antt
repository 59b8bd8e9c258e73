use Rattle.std.proofs.Common.{codes}
use Rattle.std.proofs.lemmas.Result.{on_ok_weaker}
use Rattle.elide_object.specs.Object.{schedule_value}
use Rattle.elide_object.proofs.Sending.{sent_equal}
use Rattle.tm_hist.specs.Lines.{stop_word}
use Rattle.serde_json.specs.Data.{string}
use Rattle.elide_outcomes.proofs.object.send_stop.Goals as goal

pub returns : goal.returns
returns g c =
    let written = g.S.Serializer.written in
    let told = c.args.told.now in
    let cause =
    sent_equal (codes "cause") string _ (stop_word told.why) _ _ c.stop_name.ensures.text c.in_ok-send_text.ensures in
    let steps = sent_equal (codes "schedule") schedule_value _ told.schedule.items _ _
    c.as_slice.ensures.value c.in_ok-send_schedule.ensures in
    on_ok_weaker c.end_map.result (λ ended. (
      written c.begin_map.new.self,
      c.in_ok-begin_map.ensures,
      (
        cause.0,
        written c.send_text.new.out,
        cause.1,
        cause.2,
        (steps.0, written c.send_schedule.new.out, steps.1, steps.2, ended),
      ),
    )) c.end_map.ensures
