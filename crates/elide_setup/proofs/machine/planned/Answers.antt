use Rattle.std.proofs.lemmas.Result.{err_from_is_err_and}
use Rattle.elide_setup.proofs.Refusing.{not_loaded_with}
use Rattle.elide_setup.specs.Refused.{no_parts, no_starts, uncharted, unloaded}
use Rattle.elide_setup.proofs.machine.planned.Goals as goal

pub returns-in_err-starts-clause-none : goal.returns-in_err-starts-clause-none
returns-in_err-starts-clause-none g c =
    let p = err_from_is_err_and c.from_residual.result c.from_residual.ensures.1 in
    rw p.1 (unloaded c.in_err-starts.field-0.0 (no_starts c.in_err-starts.ensures.none) p.2)

pub returns-in_err-parts-clause-none : goal.returns-in_err-parts-clause-none
returns-in_err-parts-clause-none g c =
    let p = err_from_is_err_and c.from_residual-in_err-parts.result c.from_residual-in_err-parts.ensures.1 in
    rw p.1 (unloaded c.in_err-parts.field-0.0 (no_parts c.in_err-parts.ensures.none) p.2)

pub returns-in_err-course-clause-none : goal.returns-in_err-course-clause-none
returns-in_err-course-clause-none g c =
    let p = err_from_is_err_and c.from_residual-in_err-course.result c.from_residual-in_err-course.ensures.1 in
    rw (p.1, p.2) (uncharted c.in_err-course.ensures.none)

pub returns-in_err-setup-clause-none : goal.returns-in_err-setup-clause-none
returns-in_err-setup-clause-none g c =
    let h = c.in_err-setup.ensures.none in
    let p = err_from_is_err_and c.from_residual-in_err-setup.result c.from_residual-in_err-setup.ensures.1 in
    rw (p.1, p.2)
    (unloaded h.0
    (not_loaded_with c.args.file.now c.args.settings.now c.in_ok-starts.starts.items c.as_slice.result.now h.0
    c.as_slice.ensures.value c.in_ok-starts.ensures.cores c.in_ok-starts.ensures.many c.in_ok-starts.ensures.starts h.2)
    h.1)

pub returns-clause-draw : goal.returns-clause-draw
returns-clause-draw g c = c.in_ok-course.ensures.draw
