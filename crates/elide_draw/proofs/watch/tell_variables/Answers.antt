use Rattle.elide_draw.proofs.Telling.{same_more, same_self}
use Rattle.elide_draw.proofs.watch.tell_variables.Goals as goal

pub loop-index-init : goal.loop-index-init
loop-index-init c = same_self c.args.timeline.now

pub loop-index-preserved : goal.loop-index-preserved
loop-index-preserved c = same_more _ _ _ c.loop-index.invariant c.tell_variable.ensures

pub returns-in_err-tell_variable : goal.returns-in_err-tell_variable
returns-in_err-tell_variable c = same_more _ _ _ c.loop-index.invariant c.tell_variable.ensures
