use Rattle.std.proofs.lemmas.Result.{IfOk-weaker}
use Rattle.tm_hunt.specs.Attempts.{ComesTo, IsAttempt}
use Rattle.tm_hunt.specs.Runs.{AreStepsOf}
use Rattle.tm_hunt.proofs.Ending.{attempt_of}
use Rattle.tm_hunt.proofs.attempt.try_run.Goals as goal

pub returns-clause-ok : goal.returns-clause-ok
returns-clause-ok g c =
    IfOk-weaker c.judge.result (ComesTo c.args.trial.now c.run.new.board)
    (IsAttempt c.args.trial.now (AreStepsOf g.S.StepSource.picks g.S.StepSource.kinds c.args.source.now))
    (attempt_of c.args.trial.now (AreStepsOf g.S.StepSource.picks g.S.StepSource.kinds c.args.source.now)
    c.run.new.board c.run.ensures.of_trial c.is_run.ensures c.run.ensures.steps)
    c.judge.ensures.ok
