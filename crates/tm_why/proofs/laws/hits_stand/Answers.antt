use Rattle.tm_why.proofs.StandingHits.{hits_stand}
use Rattle.tm_why.proofs.laws.hits_stand.Goals as goal

pub returns : goal.returns
returns c = hits_stand
