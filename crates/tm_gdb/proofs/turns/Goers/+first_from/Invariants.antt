use Rattle.tm_gdb.proofs.turns.Goers.+first_from.Given as goal

abbrev pub decreases-first_from : goal.decreases-first_from
decreases-first_from l = l.left
