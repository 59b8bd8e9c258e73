use Rattle.tm_hunt.proofs.Left.{core_below, left_after}
use Rattle.tm_hunt.proofs.Told.{step_of}
use Rattle.tm_hunt.proofs.one_run.step_one.Goals as goal

pub make_step-outcome-requires-clause-is_core : goal.make_step-outcome-requires-clause-is_core
make_step-outcome-requires-clause-is_core c =
    core_below c.args.board.now c.args.going.now c.args.pick.core c.is_run.ensures c.requires.left c.requires.among

pub returns-clause-left : goal.returns-clause-left
returns-clause-left c =
    left_after c.args.board.now c.make_step-outcome.new.board c.args.going.now c.take_out.new.going c.args.pick.core
    c.make_step-outcome.result
    c.is_run.ensures c.is_run-2.ensures c.make_step-outcome.ensures.same c.make_step-outcome.ensures.made
    c.requires.among c.requires.left
    (record { stopped = c.take_out.ensures.stopped; goes_on = c.take_out.ensures.goes_on })

pub returns-clause-kinds : goal.returns-clause-kinds
returns-clause-kinds c = λ kinds h so_far.
    step_of kinds c.args.board.now c.make_step-outcome.new.board c.args.pick.core c.make_step-outcome.result
    c.args.pick.event c.is_run.ensures c.is_run-2.ensures c.make_step-outcome.ensures.same
    c.make_step-outcome.ensures.made c.make_step-outcome.ensures.told h so_far
