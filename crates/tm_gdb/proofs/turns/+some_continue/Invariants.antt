use Rattle.tm_gdb.proofs.turns.+some_continue.Given as goal

abbrev pub decreases-some_continue : goal.decreases-some_continue
decreases-some_continue l = l.left
