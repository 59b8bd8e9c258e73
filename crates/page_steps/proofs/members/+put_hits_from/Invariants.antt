use Rattle.std.proofs.Common.{length}
use Rattle.page_steps.proofs.members.+put_hits_from.Given as goal

abbrev pub decreases-put_hits_from : goal.decreases-put_hits_from
decreases-put_hits_from g l = length l.hits.now
