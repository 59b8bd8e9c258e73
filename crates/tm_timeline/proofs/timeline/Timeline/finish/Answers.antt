use Rattle.std.proofs.Common.{◌∙◌}
use Rattle.tm_timeline.proofs.Growing.{grows_more}
use Rattle.tm_timeline.proofs.timeline.Timeline.finish.Goals as goal

pub loop-core-preserved : goal.loop-core-preserved
loop-core-preserved c = record {
  next = c.finish_core.ensures.next ∙ c.loop-core.invariant.next;
  grows = grows_more _ _ _ c.loop-core.invariant.grows c.finish_core.ensures.grows;
}
