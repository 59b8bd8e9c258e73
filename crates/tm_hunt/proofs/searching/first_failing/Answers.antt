use Rattle.std.proofs.Common.{ℕ, arith}
use Rattle.tm_hist.specs.Board.{ShownBoard as Board}
use Rattle.tm_hunt.specs.Attempts.{none_passed}
use Rattle.tm_hunt.specs.Runs.{IsOfRun}
use Rattle.tm_hunt.proofs.Counted.{ended_more, cut_more}
use Rattle.tm_hunt.proofs.searching.first_failing.Goals.{in-Ended, in-Cut}
use Rattle.tm_hunt.proofs.searching.first_failing.Goals as goal

pub runs-init : goal.runs-init
runs-init g c = record {
  passed = none_passed;
  counted = omega arith;
  board = c.in_ok-board.ensures.ok;
}

pub runs-preserved : goal.runs-preserved
runs-preserved g c =
    let made : ℕ → Board → Type 0 = IsOfRun g.S.RunSource.begins g.S.Steps.StepSource.picks c.args.plan in
    let before = c.runs.invariant in
    elim c.match-branch-3.branch [
      | in-Ended w ↦
          let ended = w.ended-is in
          let cut = w.cut-is in
          record {
            passed = ended_more c.args.trial.now made c.args.first c.runs.ended c.runs.cut c.match-branch-3.ended
                c.match-branch-3.cut c.runs.run ended cut before.counted before.passed
                _ w.in-Ended.is c.in_ok-run_of.ensures.ok;
            counted = omega arith;
            board = c.in_ok-run_of.ensures.of_trial;
          }
      | in-Cut w ↦
          let ended = w.ended-is in
          let cut = w.cut-is in
          record {
            passed = cut_more c.args.trial.now made c.args.first c.runs.ended c.runs.cut c.match-branch-3.ended
                c.match-branch-3.cut c.runs.run ended cut before.counted before.passed
                _ w.in-Cut.is c.in_ok-run_of.ensures.ok;
            counted = omega arith;
            board = c.in_ok-run_of.ensures.of_trial;
          }
    ]
