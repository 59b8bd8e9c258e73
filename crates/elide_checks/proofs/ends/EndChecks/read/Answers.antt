use Rattle.std.proofs.lemmas.Result.{err_from_is_err_and}
use Rattle.elide_checks.proofs.Asked.{ends_by_names, none_by_names}
use Rattle.elide_checks.proofs.ends.EndChecks.read.Goals as goal

pub returns : goal.returns
returns c =
    ends_by_names c.args.text.now c.args.file.now c.args.demands.now c.args.forbids.now
    c.in_ok-constants.constants.names.items c.in_ok-checks.checks.items
    c.in_ok-constants.ensures c.in_ok-checks.ensures

pub returns-in_err-checks : goal.returns-in_err-checks
returns-in_err-checks c =
    let r = c.from_residual-in_err-checks in
    let p = err_from_is_err_and r.result r.ensures.1 in
    rw (p.1, p.2)
    (none_by_names c.args.text.now c.args.file.now c.args.demands.now c.args.forbids.now
    c.in_ok-constants.constants.names.items _
    c.in_ok-constants.ensures c.in_err-checks.ensures)
