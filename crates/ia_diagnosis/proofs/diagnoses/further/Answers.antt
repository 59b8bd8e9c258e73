use Rattle.std.proofs.Common.{◌≡◌, ap, arith, length}
use Rattle.ia_diagnosis.proofs.Rising.{course_more}
use Rattle.ia_diagnosis.proofs.diagnoses.further.Goals as goal

pub loop-round-preserved : goal.loop-round-preserved
loop-round-preserved c =
    let long : length c.as_slice-in-loop-round.result.now ≡ length c.loop-round.told.items =
    ap length c.as_slice-in-loop-round.ensures.value in
    course_more c.args.source.now c.loop-round.told.items c.loop-round.least c.tell_next.new.told.items
    c.in_ok-least-2.least
    c.loop-round.invariant (omega (arith, long, c.if-as_slice-ge-MOST.false)) c.in_ok-least-2.ensures
