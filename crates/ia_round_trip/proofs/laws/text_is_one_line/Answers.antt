use Rattle.ia_round_trip.proofs.Lines.{text_is_one_line}
use Rattle.ia_round_trip.proofs.laws.text_is_one_line.Goals as goal

pub returns : goal.returns
returns c = text_is_one_line
