use Rattle.tm_pick.specs.declared.events.Events.TheVariants.{Never}
use Rattle.work_tests.proofs.workers.two_seats.Given as goal

abbrev pub ghosts-two_threads-J-LedgerIdentity : goal.ghosts-two_threads-J-LedgerIdentity
ghosts-two_threads-J-LedgerIdentity g a = record { table = a.opening.table }

abbrev pub ghosts-two_threads-J-DeskIdentity : goal.ghosts-two_threads-J-DeskIdentity
ghosts-two_threads-J-DeskIdentity g a = record { given = a.opening.given; events = Never }
