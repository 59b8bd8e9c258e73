use Rattle.tm_page.proofs.Run.{states}
use Rattle.tm_page.proofs.laws.states_stand.Goals as goal

pub returns : goal.returns
returns c = states
