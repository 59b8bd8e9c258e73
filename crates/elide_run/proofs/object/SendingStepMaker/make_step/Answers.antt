use Rattle.elide_run.proofs.Rows.{row_one}
use Rattle.elide_run.proofs.object.SendingStepMaker.make_step.Goals as goal

pub returns-clause-made : goal.returns-clause-made
returns-clause-made g c = (
  c.in_ok-outcome.ensures.made,
  row_one _ _ c.args.self.now.made c.in_ok-step.step c.args.pick c.in_ok-outcome.outcome c.in_ok-step.ensures.number
      c.in_ok-put_outcome.ensures.wrote,
  c.in_ok-step.ensures.number,
)
