use Rattle.std.proofs.Common.{◌≡◌, length}
use Rattle.tm_outcomes.specs.Places.{IsPlaceOf}
use Rattle.tm_outcomes.specs.Resting.{RestsBy}
use Rattle.tm_outcomes.proofs.place.Place.come_to_rest.Given as goal

-- those of the cores so far were made, and added
abbrev pub invariant-loop-core : goal.invariant-loop-core
invariant-loop-core l = record {
  end : l.core-end ≡ length l.trial.program.now.entries;
  place : IsPlaceOf l.trial l.self;
  rests : RestsBy l.trial l.initial.self l.self l.initial.steps.items l.steps.items;
}
