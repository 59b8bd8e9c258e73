use Rattle.ia_round_trip.proofs.Bytes.{source_assembles_to_its_bytes}
use Rattle.ia_round_trip.proofs.laws.source_assembles_to_its_bytes.Goals as goal

pub returns : goal.returns
returns c = source_assembles_to_its_bytes
