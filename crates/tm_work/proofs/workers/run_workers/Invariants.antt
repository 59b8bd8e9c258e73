use Rattle.tm_pick.specs.declared.events.Events.TheVariants.{Never}
use Rattle.tm_work.proofs.workers.run_workers.Given as goal

abbrev pub ghosts-run_at-J-LedgerIdentity : goal.ghosts-run_at-J-LedgerIdentity
ghosts-run_at-J-LedgerIdentity g a = record { table = a.opening.table }

abbrev pub ghosts-run_at-J-DeskIdentity : goal.ghosts-run_at-J-DeskIdentity
ghosts-run_at-J-DeskIdentity g a = record { given = a.opening.given; events = Never }
