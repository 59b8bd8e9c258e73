use Rattle.tm_timeline.specs.Told.{SameSteps}
use Rattle.elide_draw.proofs.course.tell_opening.Given as goal

abbrev pub invariant-loop-sum : goal.invariant-loop-sum
invariant-loop-sum g l = SameSteps l.fn.timeline l.timeline
