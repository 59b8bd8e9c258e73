use Rattle.ia_round_trip.proofs.Operands.{operands_read_back}
use Rattle.ia_round_trip.proofs.laws.operands_read_back.Goals as goal

pub returns : goal.returns
returns c = operands_read_back
