use Rattle.std.proofs.lemmas.Result.{IfErr-weaker}
use Rattle.elide_threads.specs.Refused.{IsNoWork, IsNotTold, not_told}
use Rattle.std.proofs.lemmas.Result.{err_from_is_err_and}
use Rattle.elide_threads.specs.Refused.{no_board}
use Rattle.elide_threads.proofs.workers.run_and_tell.Goals as goal

pub returns-clause-refused : goal.returns-clause-refused
returns-clause-refused g c =
    let setup = c.args.loaded.now.setup in
    let work = c.args.asked.now.work in
    let board = c.in_ok-board-2.board in
    IfErr-weaker c.tell_run-end.result (IsNotTold setup board) (IsNoWork setup work.budget work.plan work.path)
    (λ why h. not_told board
    (record {
      first = c.in_ok-board.board;
      new = c.in_ok-board.ensures.made;
      steps = c.in_ok-board-2.ensures.report.0;
      report = c.in_ok-board-2.ensures.report.1;
      drawn = c.in_ok-board-2.ensures.events;
    }) h)
    (c.tell_run-end.ensures.refused)

pub returns-in_err-board-clause-refused : goal.returns-in_err-board-clause-refused
returns-in_err-board-clause-refused g c =
    let p = err_from_is_err_and c.from_residual.result c.from_residual.ensures.1 in
    rw (p.1, p.2) (no_board c.in_err-board.ensures.none)
