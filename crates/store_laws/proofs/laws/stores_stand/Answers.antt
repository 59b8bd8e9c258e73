use Rattle.store_laws.proofs.StandingStores.{stores_stand}
use Rattle.store_laws.proofs.laws.stores_stand.Goals as goal

pub returns : goal.returns
returns c = stores_stand
