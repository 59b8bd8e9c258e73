use Rattle.tm_gdb.proofs.turns.+stepping_from.Given as goal

abbrev pub decreases-stepping_from : goal.decreases-stepping_from
decreases-stepping_from l = l.left
