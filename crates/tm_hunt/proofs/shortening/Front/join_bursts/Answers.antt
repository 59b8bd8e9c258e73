use Rattle.tm_hunt.proofs.Shortenings.{shortens_more}
use Rattle.tm_hunt.proofs.shortening.Front.join_bursts.Goals as goal

pub returns-in_err-join_at-clause-shorter : goal.returns-in_err-join_at-clause-shorter
returns-in_err-join_at-clause-shorter c = shortens_more c.tries.invariant c.join_at.ensures.shorter

pub returns-then-at-len-clause-shorter : goal.returns-then-at-len-clause-shorter
returns-then-at-len-clause-shorter c = shortens_more c.tries.invariant c.join_at.ensures.shorter

pub tries-preserved : goal.tries-preserved
tries-preserved c = shortens_more c.tries.invariant c.join_at.ensures.shorter
