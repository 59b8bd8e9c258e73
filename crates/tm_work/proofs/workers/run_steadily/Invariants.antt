use Rattle.tm_work.proofs.workers.run_steadily.Given as goal

abbrev pub ghosts-run_at-J-LedgerIdentity : goal.ghosts-run_at-J-LedgerIdentity
ghosts-run_at-J-LedgerIdentity g a = record { table = a.opening.table }

abbrev pub ghosts-run_at-J-DeskIdentity : goal.ghosts-run_at-J-DeskIdentity
ghosts-run_at-J-DeskIdentity g a = record { given = a.opening.given; events = a.manner.now.plan.events }
