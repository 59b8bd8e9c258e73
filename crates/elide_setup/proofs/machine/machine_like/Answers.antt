use Rattle.std.proofs.Common.{ap, refl}
use Rattle.std.proofs.lemmas.Result.{err_from_is_err_and}
use Rattle.std.specs.Prelude.{Err}
use Rattle.elide_setup.proofs.machine.machine_like.Goals as goal

pub returns-in_err-machine-clause-none : goal.returns-in_err-machine-clause-none
returns-in_err-machine-clause-none c =
    let p = err_from_is_err_and c.from_residual.result c.from_residual.ensures.1 in
    rw (p.1, p.2) (record {
      cause = c.in_err-machine.field-0.0;
      tells = refl;
      limited = λ e. c.in_err-machine.ensures.limits.0 (ap Err e);
    })
