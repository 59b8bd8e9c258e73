use Rattle.tm_debug.proofs.state.+running_from.Given as goal

abbrev pub decreases-running_from : goal.decreases-running_from
decreases-running_from l = l.left
