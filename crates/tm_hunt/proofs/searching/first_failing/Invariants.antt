use Rattle.std.proofs.Common.{◌≡◌, ◌+◌}
use Rattle.tm_hunt.specs.Attempts.{HavePassed}
use Rattle.tm_hunt.specs.Hunt.{IsTrialOf}
use Rattle.tm_hunt.specs.Runs.{IsOfRun}
use Rattle.tm_hunt.proofs.searching.first_failing.Given as goal

abbrev pub invariant-runs : goal.invariant-runs
invariant-runs g l = record {
  passed : HavePassed l.trial (IsOfRun g.S.RunSource.begins g.S.Steps.StepSource.picks l.plan) l.fn.first l.ended l.cut;
  counted : l.fn.first + (l.ended + l.cut) ≡ l.run;
  board : IsTrialOf l.trial l.board;
}
