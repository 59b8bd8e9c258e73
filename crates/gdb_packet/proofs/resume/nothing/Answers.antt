use Rattle.gdb_packet.proofs.Leftmost.{none_in_nothing}
use Rattle.gdb_packet.proofs.resume.nothing.Goals as goal

pub returns-clause-chosen : goal.returns-clause-chosen
returns-clause-chosen c = λ thread. none_in_nothing thread 64
