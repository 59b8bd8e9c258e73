use Rattle.std.proofs.Common.{List, subst}
use Rattle.std.specs.Prelude.{All}
use Rattle.tm_hunt.specs.Delays.{IsDelayed}
use Rattle.tm_model.specs.declared.outcome.Pick.{Pick}
use Rattle.tm_hunt.proofs.delays.find_delays.Goals as goal

pub returns-clause-delayed : goal.returns-clause-delayed
returns-clause-delayed c =
    subst (λ (picks : List Pick). All (IsDelayed c.args.trial.now picks) c.in_ok-found.found.items) c.deciding.ensures
    c.in_ok-found.ensures.delayed
