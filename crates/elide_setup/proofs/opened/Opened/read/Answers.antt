use Rattle.std.proofs.lemmas.Result.{err_from_is_err_and}
use Rattle.elide_setup.proofs.opened.Opened.read.Goals as goal

pub returns-clause-setup : goal.returns-clause-setup
returns-clause-setup g c = c.in_ok-loaded.ensures.loaded.setup

pub returns-clause-course : goal.returns-clause-course
returns-clause-course g c = c.in_ok-loaded.ensures.loaded.course

pub returns-clause-listed : goal.returns-clause-listed
returns-clause-listed g c = c.in_ok-loaded.ensures.loaded.listed

pub returns-clause-out : goal.returns-clause-out
returns-clause-out g c = c.in_ok-loaded.ensures.loaded.out

pub returns-in_err-loaded-clause-none : goal.returns-in_err-loaded-clause-none
returns-in_err-loaded-clause-none g c =
    let p = err_from_is_err_and c.from_residual.result c.from_residual.ensures.1 in
    rw (p.1, p.2) c.in_err-loaded.ensures.none
