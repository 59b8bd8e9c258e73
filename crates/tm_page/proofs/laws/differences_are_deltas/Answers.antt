use Rattle.tm_page.proofs.Step.{differences}
use Rattle.tm_page.proofs.laws.differences_are_deltas.Goals as goal

pub returns : goal.returns
returns c = differences
