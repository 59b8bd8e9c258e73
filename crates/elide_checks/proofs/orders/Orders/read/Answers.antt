use Rattle.std.proofs.lemmas.Result.{err_from_is_err_and}
use Rattle.std.specs.Option.{option_copied}
use Rattle.elide_checks.specs.Refused.{bad_limit, bad_runs}
use Rattle.elide_checks.proofs.Limits.{limit_is, no_limit}
use Rattle.elide_checks.proofs.orders.Orders.read.Goals as goal

pub returns-clause-most : goal.returns-clause-most
returns-clause-most g c =
    (limit_is (option_copied c.args.options.now.limit) c.in_ok-most.most c.in_ok-most.ensures).0

pub returns-clause-some : goal.returns-clause-some
returns-clause-some g c =
    (limit_is (option_copied c.args.options.now.limit) c.in_ok-most.most c.in_ok-most.ensures).1

pub returns-in_err-first-clause-err : goal.returns-in_err-first-clause-err
returns-in_err-first-clause-err g c =
    let p = err_from_is_err_and c.from_residual.result c.from_residual.ensures.1 in
    let h = c.in_err-first.ensures.err in
    rw (p.1, p.2) (bad_runs h.0 h.1)

pub returns-in_err-most-clause-err : goal.returns-in_err-most-clause-err
returns-in_err-most-clause-err g c =
    let r = c.from_residual-in_err-most in
    let p = err_from_is_err_and r.result r.ensures.1 in
    let h = c.in_err-most.ensures in
    rw (p.1, p.2) (bad_limit (no_limit (option_copied c.args.options.now.limit) h.0) h.1)
