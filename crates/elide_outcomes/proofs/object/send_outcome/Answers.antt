use Rattle.std.proofs.Common.{codes}
use Rattle.std.proofs.lemmas.Result.{on_ok_weaker}
use Rattle.elide_object.specs.Object.{list_value, number_value, schedule_value}
use Rattle.elide_object.proofs.Sending.{sent_equal}
use Rattle.elide_outcomes.proofs.object.send_outcome.Goals as goal

pub returns : goal.returns
returns g c =
    let written = g.S.Serializer.written in
    let told = c.args.told.now in
    let values = sent_equal (codes "values") (list_value number_value) _ told.values.items _ _
    c.as_slice.ensures.value c.in_ok-send_numbers.ensures in
    let ends = sent_equal (codes "ends") number_value _ told.ends _ _ c.from.ensures c.in_ok-send_number.ensures in
    let steps = sent_equal (codes "schedule") schedule_value _ told.schedule.items _ _
    c.as_slice-2.ensures.value c.in_ok-send_schedule.ensures in
    on_ok_weaker c.end_map.result (λ ended. (
      written c.begin_map.new.self,
      c.in_ok-begin_map.ensures,
      (
        values.0,
        written c.send_numbers.new.out,
        values.1,
        values.2,
        (
          ends.0,
          written c.send_number.new.out,
          ends.1,
          ends.2,
          (steps.0, written c.send_schedule.new.out, steps.1, steps.2, ended),
        ),
      ),
    )) c.end_map.ensures
