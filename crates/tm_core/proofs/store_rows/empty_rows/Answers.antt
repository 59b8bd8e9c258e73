use Rattle.std.proofs.Common.{arith}
use Rattle.tm_core.proofs.Buffered.{given_all, given_more, given_none}
use Rattle.tm_core.proofs.store_rows.empty_rows.Goals as goal

pub loop-core-init : goal.loop-core-init
loop-core-init c = given_none c.args.rows.now

pub loop-core-preserved : goal.loop-core-preserved
loop-core-preserved c =
    given_more c.args.rows.now c.loop-core.rows c.loop-core.core c.index-rows-core.result c.clear.new.self
    c.loop-core.invariant (omega (arith, c.loop-core.invariant.count)) c.clear.ensures.items c.clear.ensures.capacity

pub returns : goal.returns
returns c = given_all c.args.rows.now c.loop-core.rows c.loop-core.core c.loop-core.invariant (omega arith)
