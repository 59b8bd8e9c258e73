use Rattle.std.proofs.Common.{◌∙◌, subst, ℕ}
use Rattle.std.specs.Prelude.{max}
use Rattle.elide_setup.specs.Refused.{IsNoBoard}
use Rattle.tm_hist.specs.Board.{IsNew}
use Rattle.elide_setup.specs.Schedules.{most_of}
use Rattle.elide_setup.proofs.Runs.{made_all}
use Rattle.std.proofs.lemmas.Result.{err_from_is_err_and}
use Rattle.elide_replay.proofs.Refusing.{of_walk}
use Rattle.elide_replay.specs.Refused.{no_board}
use Rattle.elide_replay.proofs.once_more.board_of.Goals as goal

pub returns-clause-made : goal.returns-clause-made
returns-clause-made g c =
    let steps = c.in_ok-walk.ensures.walked in
    let made = made_all steps.0 c.in_ok-board.board c.walk.new.maker c.in_ok-board.ensures.made.history steps.2 in
    record {
      program = made.1.program ∙ c.in_ok-board.ensures.made.program;
      limits = made.1.limits ∙ c.in_ok-board.ensures.made.limits;
    }

pub returns-clause-steps : goal.returns-clause-steps
returns-clause-steps g c =
    let steps = c.in_ok-walk.ensures.walked in
    let made = made_all steps.0 c.in_ok-board.board c.walk.new.maker c.in_ok-board.ensures.made.history steps.2 in
    (steps.0, made.0, steps.1)

pub returns-in_err-board-clause-none : goal.returns-in_err-board-clause-none
returns-in_err-board-clause-none g c =
    let p = err_from_is_err_and c.from_residual.result c.from_residual.ensures.1 in
    let none : IsNoBoard c.args.setup.now (max (most_of c.args.course.now) 1) c.in_err-board.field-0.0 =
    subst (λ (n : ℕ). IsNoBoard c.args.setup.now (max n 1) c.in_err-board.field-0.0) c.most.ensures
    c.in_err-board.ensures.none in
    rw (p.1, p.2) (no_board none)

pub returns-in_err-walk-clause-none : goal.returns-in_err-walk-clause-none
returns-in_err-walk-clause-none g c =
    let p = err_from_is_err_and c.from_residual-in_err-walk.result c.from_residual-in_err-walk.ensures.1 in
    let new :
    IsNew c.args.setup.now.program c.args.setup.now.limits (max (most_of c.args.course.now) 1) c.in_ok-board.board =
    subst (λ (n : ℕ). IsNew c.args.setup.now.program c.args.setup.now.limits (max n 1) c.in_ok-board.board)
    c.most.ensures c.in_ok-board.ensures.made in
    rw (p.1, p.2)
    (of_walk c.args.setup.now c.args.course.now c.cores-cores.result c.in_ok-board.board c.in_err-walk.field-0.0 new
    c.cores-cores.ensures.program c.in_ok-check_cores.ensures.fit c.in_err-walk.ensures.refused)
