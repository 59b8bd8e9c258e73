use Rattle.elide_setup.proofs.Runs.{board_step}
use Rattle.elide_setup.proofs.walk.BoardStepMaker.make_step.Goals as goal

pub returns-clause-made : goal.returns-clause-made
returns-clause-made c =
    board_step c.args.self.now c.board_step.new.board c.args.pick c.in_ok-outcome.outcome c.board_step.ensures.same
    c.in_ok-outcome.ensures.ok
    c.in_ok-outcome.ensures.under c.is_run.ensures c.is_run-2.ensures
