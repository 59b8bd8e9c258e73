use Rattle.tm_outcomes.specs.Digests.{mixed}
use Rattle.tm_outcomes.proofs.digest.Digest.add.Goals as goal

pub returns : goal.returns
unfolding mixed
returns c = c.rotate_left-self.ensures
