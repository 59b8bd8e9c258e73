use Rattle.std.proofs.Common.{◌≤◌, ◌-◌, ◌++◌, List, replicate}
use Rattle.tm_model.specs.declared.outcome.Pick.{Pick}
use Rattle.tm_outcomes.specs.Places.{IsAt, IsPlaceOf, alone}
use Rattle.tm_outcomes.proofs.place.Place.steps_alone.Given as goal

-- so many were made
abbrev pub invariant-steps : goal.invariant-steps
invariant-steps l = record {
  few : l.made ≤ l.count;
  place : IsPlaceOf l.trial l.self;
  at : (schedule : List Pick) → IsAt l.trial l.initial.self schedule →
      IsAt l.trial l.self (schedule ++ replicate l.made (alone l.core));
}

abbrev pub decreases-steps : goal.decreases-steps
decreases-steps l = l.count - l.made
