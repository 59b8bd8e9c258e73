use Rattle.std.proofs.lemmas.Result.{err_from_is_err_and}
use Rattle.elide_program.proofs.Refusing.{of_dumps, of_shows}
use Rattle.elide_program.proofs.parts.MemoryParts.of_file.Goals as goal

pub returns-in_err-dumps-clause-none : goal.returns-in_err-dumps-clause-none
returns-in_err-dumps-clause-none c =
    let p = err_from_is_err_and c.from_residual.result c.from_residual.ensures.1 in
    rw (p.1, p.2)
    (of_dumps c.args.file.now c.args.settings.now.dumps.now c.args.settings.now.shows.now c.in_err-dumps.field-0.0
    c.in_err-dumps.ensures.none)

pub returns-in_err-values-clause-none : goal.returns-in_err-values-clause-none
returns-in_err-values-clause-none c =
    let p = err_from_is_err_and c.from_residual-in_err-values.result c.from_residual-in_err-values.ensures.1 in
    rw (p.1, p.2)
    (of_shows c.args.file.now c.args.settings.now.dumps.now c.args.settings.now.shows.now c.in_err-values.field-0.0
    c.in_err-values.ensures.none)
