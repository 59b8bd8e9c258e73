use Rattle.ia_round_trip.proofs.Bytes.{line_assembles_to_its_bytes}
use Rattle.ia_round_trip.proofs.laws.line_assembles_to_its_bytes.Goals as goal

pub returns : goal.returns
returns c = line_assembles_to_its_bytes
