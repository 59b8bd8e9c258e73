use Rattle.tm_pick.specs.declared.events.Events.TheVariants.{Never}
use Rattle.work_tests.proofs.workers.no_seat_comes_back.Given as goal

abbrev pub ghosts-close_without_seats-J-LedgerIdentity : goal.ghosts-close_without_seats-J-LedgerIdentity
ghosts-close_without_seats-J-LedgerIdentity g a = record { table = a.opening.table }

abbrev pub ghosts-close_without_seats-J-DeskIdentity : goal.ghosts-close_without_seats-J-DeskIdentity
ghosts-close_without_seats-J-DeskIdentity g a = record { given = a.opening.given; events = Never }
