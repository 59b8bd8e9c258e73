use Rattle.std.proofs.Common.{◌<◌, ◌++◌, List, length, take}
use Rattle.tm_model.specs.declared.outcome.Pick.{Pick}
use Rattle.tm_outcomes.specs.Places.{IsAhead, IsPlaceOf}
use Rattle.tm_outcomes.proofs.place.Place.take_up_all.Given as goal

abbrev pub invariant-loop-pick : goal.invariant-loop-pick
invariant-loop-pick l = record {
  ahead : (schedule : List Pick) → IsAhead l.trial l.fn.self l.fn.ahead schedule →
      IsAhead l.trial l.self l.ahead (schedule ++ take l.pick-index l.steps);
  core : 0 < l.ahead.count → l.ahead.core < length l.trial.program.now.entries;
  place : IsPlaceOf l.trial l.self;
}
