use Rattle.elide_setup.proofs.NoSteps.{no_step_told}
use Rattle.elide_setup.proofs.walk.board_step.Goals as goal

pub returns-clause-refused : goal.returns-clause-refused
returns-clause-refused c =
    no_step_told c.args.board.now c.args.pick c.step_by.result c.board_told.result c.step_by.ensures.none
    c.step_by.ensures.full c.board_told.ensures.refused
