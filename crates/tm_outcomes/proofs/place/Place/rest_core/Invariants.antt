use Rattle.std.proofs.Common.{◌-◌, length}
use Rattle.tm_outcomes.specs.Places.{IsPlaceOf}
use Rattle.tm_outcomes.specs.Resting.{RestsBy}
use Rattle.tm_outcomes.proofs.place.Place.rest_core.Given as goal

-- unseen steps were made, and they were added
abbrev pub invariant-steps : goal.invariant-steps
invariant-steps l = record {
  place : IsPlaceOf l.trial l.self;
  rests : RestsBy l.trial l.initial.self l.self l.initial.steps.items l.steps.items;
}

abbrev pub decreases-steps : goal.decreases-steps
decreases-steps l = 4097 - length l.steps.items
