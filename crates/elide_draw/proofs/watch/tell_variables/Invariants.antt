use Rattle.tm_timeline.specs.Told.{SameSteps}
use Rattle.elide_draw.proofs.watch.tell_variables.Given as goal

abbrev pub invariant-loop-index : goal.invariant-loop-index
invariant-loop-index l = SameSteps l.fn.timeline l.timeline
