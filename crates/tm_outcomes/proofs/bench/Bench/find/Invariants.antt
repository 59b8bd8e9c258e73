use Rattle.std.proofs.Common.{◌≡◌}
use Rattle.tm_outcomes.specs.Written.{IsBenchOf}
use Rattle.tm_outcomes.proofs.Kept.{IsLooking, left_of}
use Rattle.tm_outcomes.proofs.bench.Bench.find.Given as goal

-- the nodes behind the candidate go on otherwise
abbrev pub invariant-nodes : goal.invariant-nodes
invariant-nodes l = record {
  bench : IsBenchOf l.task.trial l.nodes l.self;
  here : l.self.here ≡ l.fn.self.here;
  noted : l.self.noted ≡ l.fn.self.noted;
  looking : IsLooking l.task.trial l.nodes l.fn.self.noted l.fn.self.here l.candidate;
}

abbrev pub decreases-nodes : goal.decreases-nodes
decreases-nodes l = left_of l.candidate
