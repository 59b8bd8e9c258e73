use Rattle.tm_timeline.specs.Told.{SameSteps}
use Rattle.elide_draw.proofs.watch.tell_hits.Given as goal

abbrev pub invariant-loop-victim : goal.invariant-loop-victim
invariant-loop-victim l = SameSteps l.fn.timeline l.timeline
