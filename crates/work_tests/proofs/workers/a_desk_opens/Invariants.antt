use Rattle.tm_pick.specs.declared.events.Events.TheVariants.{Never}
use Rattle.work_tests.proofs.workers.a_desk_opens.Given as goal

abbrev pub ghosts-three_seats-J-LedgerIdentity : goal.ghosts-three_seats-J-LedgerIdentity
ghosts-three_seats-J-LedgerIdentity g a = record { table = a.opening.table }

abbrev pub ghosts-three_seats-J-DeskIdentity : goal.ghosts-three_seats-J-DeskIdentity
ghosts-three_seats-J-DeskIdentity g a = record { given = a.opening.given; events = Never }
