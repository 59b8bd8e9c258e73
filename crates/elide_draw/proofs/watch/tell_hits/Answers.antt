use Rattle.elide_draw.proofs.Telling.{same_more, same_self}
use Rattle.elide_draw.proofs.watch.tell_hits.Goals as goal

pub loop-victim-init : goal.loop-victim-init
loop-victim-init c = same_self c.args.timeline.now

pub loop-victim-preserved : goal.loop-victim-preserved
loop-victim-preserved c = same_more _ _ _ c.loop-victim.invariant c.tell_hit.ensures

pub returns-in_err-tell_hit : goal.returns-in_err-tell_hit
returns-in_err-tell_hit c = same_more _ _ _ c.loop-victim.invariant c.tell_hit.ensures
