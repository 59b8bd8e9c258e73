use Rattle.tm_outcomes.specs.Following.{HasBench}
use Rattle.tm_outcomes.specs.Searching.{HaveDone}
use Rattle.tm_outcomes.proofs.searching.explore.Given as goal

abbrev pub invariant-loop-index : goal.invariant-loop-index
invariant-loop-index g l = record {
  done : HaveDone l.task.trial l.task.most l.search l.index;
  has_bench : HasBench l.task.trial l.search l.bench;
}
