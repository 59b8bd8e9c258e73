use Rattle.std.proofs.Common.{◌≡◌, List, subst}
use Rattle.tm_model.specs.declared.outcome.Pick.{Pick}
use Rattle.elide_hunt.specs.Lines.{counts_of}
use Rattle.elide_hunt.proofs.Hunted.{shortened_hunt}
use Rattle.elide_hunt.proofs.command.hunt_trial.Goals as goal

pub returns-clause-hunted : goal.returns-clause-hunted
returns-clause-hunted g c =
    shortened_hunt c.args.trial.now c.args.orders.now
    (record { before = c.counts_of-before.result; cycle = c.in_ok-cycle.cycle; lates = c.in_ok-lates.lates })
    c.in_ok-found.field-0 c.in-Some.field-0 c.shorten_failure.new.failure c.in-Some.is c.in_ok-found.ensures.searched
    (subst (λ (picks : List Pick). c.counts_of-before.result ≡ counts_of picks) c.as_slice.ensures.value
    c.counts_of-before.ensures)
    c.in_ok-shorten_failure.ensures.fails c.in_ok-shorten_failure.ensures.same c.in_ok-shorten_failure.ensures.simpler
    c.in_ok-shorten_failure.ensures.kinds
    c.in_ok-cycle.ensures.found c.in_ok-lates.ensures.late
