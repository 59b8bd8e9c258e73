use Rattle.tm_outcomes.proofs.verdict.verdict_of.Goals as goal

pub stuck_of-requires-clause-tree : goal.stuck_of-requires-clause-tree
stuck_of-requires-clause-tree c = (c.args.task.now.trial, c.requires.nodes.tree)
