use Rattle.elide_draw.proofs.Telling.{any_reason}
use Rattle.elide_draw.proofs.course.CounterStepMaker.make_step.Goals as goal

pub returns-clause-refused : goal.returns-clause-refused
returns-clause-refused c = any_reason c.make_step.result
