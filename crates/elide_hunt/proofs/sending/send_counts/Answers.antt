use Rattle.std.proofs.lemmas.Result.{on_ok_weaker}
use Rattle.elide_hunt.proofs.sending.send_counts.Goals as goal

pub returns : goal.returns
returns g c =
    let written = g.S.Serializer.written in
    let steps = c.in_ok-send_number.ensures in
    let switches = c.in_ok-send_number-2.ensures in
    let events = c.in_ok-send_number-3.ensures in
    on_ok_weaker c.end_map.result (λ last. (
      written c.key.new.self,
      c.in_ok-key.ensures,
      (
        written c.begin_map.new.self,
        c.in_ok-begin_map.ensures,
        (
          steps.0,
          written c.send_number.new.out,
          steps.1,
          steps.2,
          (
            switches.0,
            written c.send_number-2.new.out,
            switches.1,
            switches.2,
            (events.0, written c.send_number-3.new.out, events.1, events.2, last),
          ),
        ),
      ),
    )) c.end_map.ensures
