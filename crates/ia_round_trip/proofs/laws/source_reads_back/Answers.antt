use Rattle.ia_round_trip.proofs.Program.{source_reads_back}
use Rattle.ia_round_trip.proofs.laws.source_reads_back.Goals as goal

pub returns : goal.returns
returns c = source_reads_back
