use Rattle.std.proofs.Common.{codes}
use Rattle.std.proofs.lemmas.Result.{on_ok_weaker}
use Rattle.elide_object.specs.Object.{number_value, schedule_value}
use Rattle.elide_object.proofs.Sending.{sent_equal}
use Rattle.elide_outcomes.proofs.object.send_cycle_states.Goals as goal

pub returns : goal.returns
returns g c =
    let written = g.S.Serializer.written in
    let cycle = c.args.cycle.now in
    let states =
    sent_equal (codes "states") number_value _ cycle.states _ _ c.from.ensures c.in_ok-send_number.ensures in
    let schedule = sent_equal (codes "schedule") schedule_value _ cycle.schedule.items _ _
    c.as_slice.ensures.value c.in_ok-send_schedule.ensures in
    let steps = sent_equal (codes "steps") schedule_value _ cycle.steps.items _ _
    c.as_slice-2.ensures.value c.in_ok-send_schedule-2.ensures in
    on_ok_weaker c.end_map.result (λ ended. (
      written c.begin_map.new.self,
      c.in_ok-begin_map.ensures,
      (
        states.0,
        written c.send_number.new.out,
        states.1,
        states.2,
        (
          schedule.0,
          written c.send_schedule.new.out,
          schedule.1,
          schedule.2,
          (steps.0, written c.send_schedule-2.new.out, steps.1, steps.2, ended),
        ),
      ),
    )) c.end_map.ensures
