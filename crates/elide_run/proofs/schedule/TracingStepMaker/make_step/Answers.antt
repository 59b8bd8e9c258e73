use Rattle.elide_run.proofs.Steps.{wrote_one}
use Rattle.elide_run.proofs.schedule.TracingStepMaker.make_step.Goals as goal

pub returns-clause-made : goal.returns-clause-made
returns-clause-made g c =
    (c.in_ok-outcome.ensures.made, wrote_one _ _ c.args.pick c.in_ok-outcome.outcome c.in_ok-write_outcome.ensures)
