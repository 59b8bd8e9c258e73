use Rattle.ia_round_trip.proofs.RoundTrip.{instruction_reads_back}
use Rattle.ia_round_trip.proofs.laws.instruction_reads_back.Goals as goal

pub returns : goal.returns
returns c = instruction_reads_back
