use Rattle.std.proofs.Common.{length}
use Rattle.text_out.specs.Writing.{Ahead}
use Rattle.tm_schedule.specs.ScheduleWriting.{left_text}
use Rattle.tm_schedule.proofs.schedule.writing.write_steps.Given as goal

-- the text of the steps so far was written, but for what the writer holds back, and the rest is still to come
abbrev pub invariant-picks : goal.invariant-picks
invariant-picks g l =
    Ahead (g.O.Out.device l.initial.out) (g.O.Out.device l.out) (left_text l.fn.begun l.picks)
    (left_text l.writer l.left)

abbrev pub decreases-picks : goal.decreases-picks
decreases-picks g l = length l.left
