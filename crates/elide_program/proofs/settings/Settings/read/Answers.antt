use Rattle.std.proofs.lemmas.Result.{err_from_is_err_and}
use Rattle.elide_program.proofs.Refusing.{of_entries, of_forms, of_sums}
use Rattle.elide_program.proofs.settings.Settings.read.Goals as goal

pub returns-in_err-entries-clause-misread : goal.returns-in_err-entries-clause-misread
returns-in_err-entries-clause-misread c =
    let p = err_from_is_err_and c.from_residual-in_err-entries.result c.from_residual-in_err-entries.ensures.1 in
    rw (p.1, p.2)
    (of_entries c.args.options.now c.in_ok-cores.cores c.in_err-entries.field-0.0 c.in_ok-cores.ensures
    c.in_err-entries.ensures.misread)

pub returns-in_err-check_dumps-clause-misread : goal.returns-in_err-check_dumps-clause-misread
returns-in_err-check_dumps-clause-misread c =
    let p =
    err_from_is_err_and c.from_residual-in_err-check_dumps.result c.from_residual-in_err-check_dumps.ensures.1 in
    rw (p.1, p.2)
    (of_forms c.args.options.now c.as_slice-dumps.result.now c.in_err-check_dumps.field-0.0
    c.as_slice-dumps.ensures.value c.in_err-check_dumps.ensures)

pub returns-in_err-check_shows-clause-misread : goal.returns-in_err-check_shows-clause-misread
returns-in_err-check_shows-clause-misread c =
    let p =
    err_from_is_err_and c.from_residual-in_err-check_shows.result c.from_residual-in_err-check_shows.ensures.1 in
    rw (p.1, p.2)
    (of_sums c.args.options.now c.as_slice-shows.result.now c.in_err-check_shows.field-0.0
    c.as_slice-shows.ensures.value c.in_err-check_shows.ensures)
