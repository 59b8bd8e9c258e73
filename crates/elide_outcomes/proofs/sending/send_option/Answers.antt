use Rattle.std.proofs.lemmas.Result.{on_ok_weaker}
use Rattle.elide_outcomes.proofs.sending.send_option.Goals as goal

pub returns : goal.returns
returns g c =
    let written = g.S.Serializer.written in
    let name = c.in_ok-send_text.ensures in
    let text = c.in_ok-send_text_or_null.ensures in
    let steps = c.in_ok-send_schedule.ensures in
    on_ok_weaker c.end_map.result (λ last. (
      written c.begin_map.new.self,
      c.in_ok-begin_map.ensures,
      (
        name.0,
        written c.send_text.new.out,
        name.1,
        name.2,
        (
          text.0,
          written c.send_text_or_null.new.out,
          text.1,
          text.2,
          (steps.0, written c.send_schedule.new.out, steps.1, steps.2, last),
        ),
      ),
    )) c.end_map.ensures
