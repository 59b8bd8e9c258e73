use Rattle.tm_outcomes.specs.Digests.{word_in}
use Rattle.tm_outcomes.proofs.digest.word_at.Goals as goal

pub returns : goal.returns
unfolding word_in
returns c = c.from_le_bytes.ensures
