use Rattle.tm_hunt.proofs.Shortenings.{shortens_more}
use Rattle.tm_hunt.proofs.shortening.Front.cut_events.Goals as goal

pub returns-in_err-_fails-clause-shorter : goal.returns-in_err-_fails-clause-shorter
returns-in_err-_fails-clause-shorter c = shortens_more c.tries.invariant c.try_steps.ensures.shorter

pub tries-preserved : goal.tries-preserved
tries-preserved c = shortens_more c.tries.invariant c.try_steps.ensures.shorter
