use Rattle.std.proofs.Common.{◌≡◌, [], ◌∷◌, arith, refl}
use Rattle.std.proofs.lemmas.Result.{err_from_is_err_and}
use Rattle.elide_setup.proofs.Boards.{behind_none}
use Rattle.elide_setup.proofs.NoSteps.{no_step_before}
use Rattle.elide_setup.specs.Schedules.{lone_pick}
use Rattle.elide_setup.proofs.walk.BoardStepMaker.make_run.Goals as goal

pub returns-clause-steps : goal.returns-clause-steps
returns-clause-steps c =
    let first = c.board_steps-made.ensures.steps in
    let none : c.board_steps-made.result ≡ 0 = omega arith in (
      (_, c.in_ok-make_step.field-0) ∷ [],
      refl,
      behind_none c.args.self.now c.board_steps-made.new.board c.make_step.new.self c.args.core
          c.board_steps-made.result first.0 _ first.1 none first.2 c.in_ok-make_step.ensures.made,
    )

pub returns-in_err-make_step-clause-refused : goal.returns-in_err-make_step-clause-refused
returns-in_err-make_step-clause-refused c =
    let first = c.board_steps-made.ensures.steps in
    let none : c.board_steps-made.result ≡ 0 = omega arith in
    let p = err_from_is_err_and c.from_residual.result c.from_residual.ensures.1 in
    rw (p.1, p.2)
    (no_step_before c.args.self.now c.board_steps-made.new.board c.args.core c.board_steps-made.result
    (lone_pick c.args.core)
    c.in_err-make_step.field-0.0 first.0 first.1 none first.2 c.in_err-make_step.ensures.refused)
