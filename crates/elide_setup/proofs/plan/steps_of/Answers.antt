use Rattle.std.proofs.lemmas.Result.{err_from_is_err_and}
use Rattle.elide_setup.proofs.Misread.{no_schedule_in}
use Rattle.elide_setup.proofs.plan.steps_of.Goals as goal

pub returns-in_err-steps-clause-none : goal.returns-in_err-steps-clause-none
returns-in_err-steps-clause-none c content gives =
    let p = err_from_is_err_and c.from_residual.result c.from_residual.ensures.1 in
    rw (p.1, p.2)
    (no_schedule_in content c.args.text.now c.in_err-steps.field-0.0 gives c.in_err-steps.ensures.err)
