use Rattle.std.proofs.Common.{refl}
use Rattle.tm_outcomes.specs.Outcomes.{trial_opening}
use Rattle.tm_outcomes.proofs.place.Place.opening.Goals as goal

pub returns-in-Ok-clause-ok : goal.returns-in-Ok-clause-ok
returns-in-Ok-clause-ok c = record {
  now = trial_opening c.args.trial.now;
  is_run = refl;
  rules = c.in-Ok.ensures.rules;
  count = c.in-Ok.ensures.cores;
  stands = c.in-Ok.ensures.opening;
}
