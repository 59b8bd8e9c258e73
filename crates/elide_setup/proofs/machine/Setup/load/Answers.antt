use Rattle.std.proofs.lemmas.Result.{err_from_is_err_and}
use Rattle.elide_setup.proofs.machine.Setup.load.Goals as goal

pub returns-in_err-program-clause-none : goal.returns-in_err-program-clause-none
returns-in_err-program-clause-none c =
    let p = err_from_is_err_and c.from_residual.result c.from_residual.ensures.1 in
    rw p.1 (c.in_err-program.field-0.0, p.2, c.in_err-program.ensures.fault)
