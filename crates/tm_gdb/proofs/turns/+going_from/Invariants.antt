use Rattle.tm_gdb.proofs.turns.+going_from.Given as goal

abbrev pub decreases-going_from : goal.decreases-going_from
decreases-going_from l = l.left
