use Rattle.std.proofs.lemmas.Result.{err_from_is_err_and}
use Rattle.page_run.specs.Refused.{no_last}
use Rattle.page_run.proofs.window.Window.of.Goals as goal

pub returns-in_err-to-clause-none : goal.returns-in_err-to-clause-none
returns-in_err-to-clause-none c =
    let p = err_from_is_err_and c.from_residual-in_err-to.result c.from_residual-in_err-to.ensures.1 in
    rw (p.1, p.2) (no_last c.in_ok-from.from c.in_ok-from.ensures.before c.in_err-to.ensures.none)
