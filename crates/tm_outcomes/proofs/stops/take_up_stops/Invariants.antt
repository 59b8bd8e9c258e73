use Rattle.std.proofs.Common.{◌≡◌, ℕ, ◌<◌, get_or}
use Rattle.tm_core.specs.Theorem.{StandsFor}
use Rattle.tm_rule.specs.declared.kinds.Stop.{Stop}
use Rattle.tm_outcomes.specs.Schedules.{Situation}
use Rattle.tm_outcomes.specs.Searching.{AreStops}
use Rattle.tm_outcomes.specs.Verdicts.{IsStopTold, StopsBy}
use Rattle.tm_outcomes.proofs.stops.take_up_stops.Given as goal

-- those so far are found, and none is lost
abbrev pub invariant-loop-why : goal.invariant-loop-why
invariant-loop-why l = record {
  stops : AreStops l.task.trial l.stops.items;
  kept : (why : Stop) → IsStopTold l.initial.stops.items why → IsStopTold l.stops.items why;
  found : (index : ℕ) (why : Stop) → index < l.why-index → get_or l.task.trial.stops.now index why ≡ why →
      (now : Situation) → StandsFor l.at.place.now.machine now.state now.doomed → StopsBy now.state why →
      IsStopTold l.stops.items why;
}
