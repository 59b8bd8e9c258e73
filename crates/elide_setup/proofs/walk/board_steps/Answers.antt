use Rattle.std.proofs.Common.{◌≡◌, ap, arith}
use Rattle.tm_core.specs.declared.limits.Limits.{Limits}
use Rattle.elide_setup.proofs.Boards.{board_run, no_steps}
use Rattle.elide_setup.proofs.walk.board_steps.Goals as goal

pub returns-then-core-cores-clause-steps : goal.returns-then-core-cores-clause-steps
returns-then-core-cores-clause-steps c = no_steps c.args.board.now c.args.core c.is_run.ensures

pub returns-clause-steps : goal.returns-clause-steps
returns-clause-steps c =
    let same : c.limits.result.stores ≡ c.args.board.now.limits.stores =
    ap (λ (l : Limits). l.stores) c.limits.ensures in
    let off : c.args.board.now.limits.stores ≡ 0 = omega arith in
    board_run c.args.board.now c.steps-made.new.self c.args.core c.steps-made.result off c.is_run.ensures
    c.is_run-2.ensures c.steps-made.ensures.made
