use Rattle.std.proofs.Common.{refl}
use Rattle.elide_outcomes.specs.Refused.{not_searched}
use Rattle.elide_outcomes.proofs.Refusing.{either_weaker}
use Rattle.elide_outcomes.proofs.command.search_of_setup.Goals as goal

pub returns : goal.returns
returns g c =
    either_weaker c.search_in_order.result _ _ _ _
    (λ search is. (
      _,
      record {
        program = refl;
        limits = refl;
        items = refl;
        events = c.requires.under;
        stops = refl;
        checks = c.in_ok-checks.ensures.0;
      },
      is,
    ))
    (λ why none. not_searched _
    (record {
      program = refl;
      limits = refl;
      items = refl;
      events = c.requires.under;
      stops = refl;
      checks = c.in_ok-checks.ensures.0;
    })
    none)
    c.search_in_order.ensures
