use Rattle.std.proofs.Common.{◌||◌, Bool, ap}
use Rattle.std.proofs.lemmas.Result.{err_from_is_err_and}
use Rattle.elide_setup.proofs.Forms.{asked_come}
use Rattle.elide_setup.specs.Refused.{bad_events, bad_random}
use Rattle.elide_setup.proofs.plan.Drawn.read.Goals as goal

pub returns-in_err-seed-clause-none : goal.returns-in_err-seed-clause-none
returns-in_err-seed-clause-none c =
    let p = err_from_is_err_and c.from_residual.result c.from_residual.ensures.1 in
    let h = c.in_err-seed.ensures.none in
    rw (p.1, p.2) (bad_random h.0 h.1 h.2 h.3)

pub returns-in_err-events-clause-none : goal.returns-in_err-events-clause-none
returns-in_err-events-clause-none c =
    let p = err_from_is_err_and c.from_residual-in_err-events.result c.from_residual-in_err-events.ensures.1 in
    let h = c.in_err-events.ensures.none in
    rw (p.1, p.2) (bad_events h.0 h.1 h.2 h.3)

pub returns-clause-form : goal.returns-clause-form
returns-clause-form c =
    ap (λ (comes : Bool). comes || c.args.drains)
    (asked_come c.args.options.now.events c.in_ok-events.events c.in_ok-events.ensures.events)
