use Rattle.std.proofs.Common.{codes}
use Rattle.std.proofs.lemmas.Result.{on_ok_weaker}
use Rattle.elide_object.proofs.Sending.{sent_equal}
use Rattle.tm_hunt.specs.Cycle.{loop_of}
use Rattle.elide_hunt.specs.Object.{loop_value}
use Rattle.elide_hunt.proofs.sending.send_told.Goals as goal

pub returns : goal.returns
returns g c =
    let written = g.S.Serializer.written in
    let start = c.in_ok-send_number.ensures in
    let steps = c.in_ok-send_number-2.ensures in
    let loop = sent_equal (codes "schedule") loop_value _ (loop_of c.args.picks.now c.args.cycle) _ _ c.steps_of.ensures
    c.in_ok-send_loop.ensures in
    on_ok_weaker c.end_map.result (λ last. (
      written c.begin_map.new.self,
      c.in_ok-begin_map.ensures,
      (
        start.0,
        written c.send_number.new.out,
        start.1,
        start.2,
        (
          steps.0,
          written c.send_number-2.new.out,
          steps.1,
          steps.2,
          (loop.0, written c.send_loop.new.out, loop.1, loop.2, last),
        ),
      ),
    )) c.end_map.ensures
