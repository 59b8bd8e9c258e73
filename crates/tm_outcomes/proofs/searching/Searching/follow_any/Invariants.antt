use Rattle.std.proofs.Common.{◌≡◌, take}
use Rattle.tm_outcomes.specs.Following.{AreKnownAt, GoesOnFrom}
use Rattle.tm_outcomes.specs.Outcomes.{IsNoneOrOneOf}
use Rattle.tm_outcomes.specs.Searching.{IsFollowedIn}
use Rattle.tm_outcomes.proofs.searching.Searching.follow_any.Given as goal

-- the steps under none and under the events so far are followed
abbrev pub invariant-loop-event : goal.invariant-loop-event
invariant-loop-event l = record {
  from : GoesOnFrom l.task.trial l.task.most l.self l.bench l.index;
  known : AreKnownAt l.task.trial l.self.nodes.items l.index l.core l.first;
  found : l.self.found ≡ l.fn.self.found;
  followed : IsFollowedIn l.task.trial l.task.most l.fn.self l.self l.index l.core
      (IsNoneOrOneOf (take l.event-index l.events));
}
