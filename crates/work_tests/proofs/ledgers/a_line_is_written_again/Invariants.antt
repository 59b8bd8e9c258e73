use Rattle.work_tests.proofs.ledgers.a_line_is_written_again.Given as goal

abbrev pub ghosts-try_two_lines : goal.ghosts-try_two_lines
ghosts-try_two_lines a = record { table = a.unnamed }
