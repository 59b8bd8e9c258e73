use Rattle.tm_outcomes.specs.Following.{HasBench}
use Rattle.tm_outcomes.specs.Searching.{IsUnderway}
use Rattle.tm_outcomes.proofs.searching.Searching.expand.Given as goal

abbrev pub invariant-loop-core : goal.invariant-loop-core
invariant-loop-core l = record {
  search : IsUnderway l.task.trial l.task.most l.self l.index l.core;
  has_bench : HasBench l.task.trial l.self l.bench;
}
