use Rattle.std.proofs.Common.{refl}
use Rattle.std.proofs.lemmas.Result.{err_from_is_err_and}
use Rattle.elide_setup.proofs.Misread.{seed_misread}
use Rattle.elide_setup.proofs.plan.event_seed_of.Goals as goal

pub returns-in_err-number_of-in-Some-None-clause-none : goal.returns-in_err-number_of-in-Some-None-clause-none
returns-in_err-number_of-in-Some-None-clause-none c _ =
    let p = err_from_is_err_and c.from_residual.result c.from_residual.ensures.1 in
    rw p.1
    (seed_misread c.args.options.now c.in-Some-None.field-0-0 _ c.in_err-number_of-in-Some-None.field-0.0 p.0
    c.in-Some-None.is-0
    c.in_err-number_of-in-Some-None.ensures.0 c.in_err-number_of-in-Some-None.ensures.1 p.2 refl)
