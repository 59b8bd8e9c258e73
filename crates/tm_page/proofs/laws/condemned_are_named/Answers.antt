use Rattle.tm_page.proofs.Step.{names}
use Rattle.tm_page.proofs.laws.condemned_are_named.Goals as goal

pub returns : goal.returns
returns c = names
