use Rattle.ia_round_trip.proofs.Expressions.{expressions_agree}
use Rattle.ia_round_trip.proofs.laws.expressions_agree.Goals as goal

pub returns : goal.returns
returns c = expressions_agree
