use Rattle.std.proofs.Common.{rules, below_more}
use Rattle.elide_replay.proofs.agreement.has_cores_of.Goals as goal

pub loop-core-preserved : goal.loop-core-preserved
loop-core-preserved c = (
  c.loop-core.invariant.0,
  c.loop-core.invariant.1,
  c.loop-core.invariant.2,
  below_more _ _ c.loop-core.invariant.3 (search rules),
)
