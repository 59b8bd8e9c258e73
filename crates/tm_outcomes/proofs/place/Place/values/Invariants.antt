use Rattle.std.proofs.Common.{◌≡◌, map, take}
use Rattle.tm_core.specs.Theorem.{StandsFor}
use Rattle.tm_outcomes.specs.Outcomes.{value_of}
use Rattle.tm_outcomes.specs.Schedules.{Situation}
use Rattle.tm_outcomes.proofs.place.Place.values.Given as goal

abbrev pub invariant-loop-item : goal.invariant-loop-item
invariant-loop-item l =
    (now : Situation) → StandsFor l.self.machine now.state now.doomed
    → l.values.items ≡ map (value_of now.state) (take l.item-index l.trial.items.now)
