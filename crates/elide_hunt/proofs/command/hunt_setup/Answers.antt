use Rattle.std.proofs.Common.{length, refl, subst, sym}
use Rattle.elide_checks.specs.Checks.{AreChecks}
use Rattle.elide_checks.specs.Reach.{HasCheck}
use Rattle.std.proofs.lemmas.Result.{err_from_is_err_and}
use Rattle.elide_hunt.specs.Refused.{not_there}
use Rattle.elide_hunt.proofs.Hunted.{with_trial}
use Rattle.elide_hunt.proofs.Refusals.{lacks, no_search_of}
use Rattle.elide_hunt.proofs.command.hunt_setup.Goals as goal

pub returns-clause-hunted : goal.returns-clause-hunted
returns-clause-hunted g c text file options are =
    with_trial _ c.args.orders.now text file options c.args.setup.now c.hunt_trial.result
    c.hunt_trial.ensures.hunted refl refl refl
    (subst (AreChecks text file options) (sym c.in_ok-checks.ensures.0) are)

pub returns-in_err-checks-clause-refused : goal.returns-in_err-checks-clause-refused
returns-in_err-checks-clause-refused g c text file options are =
    let p = err_from_is_err_and c.from_residual.result c.from_residual.ensures.1 in
    let program = c.args.setup.now.program in
    rw (p.1, p.2)
    (not_there c.args.demands.now are
    (lacks HasCheck c.mem_size.result program.mem_size c.cores.result (length program.entries)
    c.args.demands.now.checks.items c.mem_size.ensures.size
    c.cores.ensures.number c.in_err-checks.ensures.0) c.in_err-checks.ensures.1)

pub returns-clause-refused : goal.returns-clause-refused
returns-clause-refused g c text file options are =
    no_search_of _ c.args.orders.now text file options c.args.setup.now c.hunt_trial.result
    c.hunt_trial.ensures.refused refl refl refl
    (subst (AreChecks text file options) (sym c.in_ok-checks.ensures.0) are)
