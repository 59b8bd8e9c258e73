use Rattle.tm_gdb.proofs.turns.+all_continue.Given as goal

abbrev pub decreases-all_continue : goal.decreases-all_continue
decreases-all_continue l = l.left
