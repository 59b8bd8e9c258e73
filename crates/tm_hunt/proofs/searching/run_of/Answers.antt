use Rattle.std.proofs.lemmas.Result.{IfOk-weaker}
use Rattle.tm_hunt.specs.Attempts.{IsAttempt}
use Rattle.tm_hunt.specs.Runs.{AreStepsOf, IsOfRun}
use Rattle.tm_hunt.proofs.Ending.{run_of_number}
use Rattle.tm_hunt.proofs.searching.run_of.Goals as goal

pub returns-clause-ok : goal.returns-clause-ok
returns-clause-ok g c =
    IfOk-weaker c.try_run.result
    (IsAttempt c.args.trial.now (AreStepsOf g.S.Steps.StepSource.picks g.S.Steps.StepSource.kinds c.run-steps.result))
    (IsAttempt c.args.trial.now (IsOfRun g.S.RunSource.begins g.S.Steps.StepSource.picks c.args.plan c.args.number))
    (run_of_number g.S.RunSource.begins g.S.Steps.StepSource.picks g.S.Steps.StepSource.kinds c.args.plan c.args.number
    c.cores.result c.run-steps.result c.args.trial.now
    c.run-steps.ensures.begun c.run-steps.ensures.kinds c.cores.ensures.number)
    c.try_run.ensures.ok
