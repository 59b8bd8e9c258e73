use Rattle.ia_round_trip.proofs.Operands.{operand_reads_back}
use Rattle.ia_round_trip.proofs.laws.operand_reads_back.Goals as goal

pub returns : goal.returns
returns c = operand_reads_back
