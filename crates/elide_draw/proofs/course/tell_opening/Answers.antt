use Rattle.elide_draw.proofs.Telling.{same_more, same_self}
use Rattle.elide_draw.proofs.course.tell_opening.Goals as goal

pub loop-sum-init : goal.loop-sum-init
loop-sum-init g c = same_self c.args.timeline.now

pub loop-sum-preserved : goal.loop-sum-preserved
loop-sum-preserved g c = same_more _ _ _ c.loop-sum.invariant c.add_variable.ensures

pub returns-in_err-add_variable : goal.returns-in_err-add_variable
returns-in_err-add_variable g c = same_more _ _ _ c.loop-sum.invariant c.add_variable.ensures

pub returns : goal.returns
returns g c = same_more _ _ _ c.loop-sum.invariant c.tell_variables.ensures
