use Rattle.ia_source.proofs.Addends.{places_are_sums}
use Rattle.ia_source.proofs.laws.places_are_sums.Goals as goal

pub returns : goal.returns
returns c = places_are_sums
