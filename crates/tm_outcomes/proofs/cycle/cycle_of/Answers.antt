use Rattle.std.proofs.Common.{arith}
use Rattle.tm_outcomes.proofs.cycle.cycle_of.Goals as goal

pub schedule_of-requires-clause-tree : goal.schedule_of-requires-clause-tree
schedule_of-requires-clause-tree c = (c.args.task.now.trial, c.requires.nodes.tree)

pub returns-clause-ok : goal.returns-clause-ok
returns-clause-ok c = record {
  node = c.in-Some.first;
  within = omega arith;
  is_marked = c.if-not-marked-first.false;
  schedule = λ schedules tree. c.in_ok-schedule.ensures c.args.task.now.trial schedules tree;
  round = rw c.in-Some-2.is at c.in_ok-steps.ensures.ok;
}
