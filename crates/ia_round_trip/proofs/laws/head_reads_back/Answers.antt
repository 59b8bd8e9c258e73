use Rattle.ia_round_trip.proofs.Heads.{head_reads_back}
use Rattle.ia_round_trip.proofs.laws.head_reads_back.Goals as goal

pub returns : goal.returns
returns c = head_reads_back
