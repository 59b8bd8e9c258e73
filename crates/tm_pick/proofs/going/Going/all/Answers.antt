use Rattle.std.proofs.Common.{arith}
use Rattle.tm_pick.proofs.Ranges.{is_range}
use Rattle.tm_pick.proofs.going.Going.all.Goals as goal

pub returns-clause-each : goal.returns-clause-each
returns-clause-each c = λ core below. (core, omega arith, c.loop-core.invariant.each core core (omega arith))

pub returns-clause-whole : goal.returns-clause-whole
returns-clause-whole c =
    is_range c.loop-core.cores.items c.args.count (omega arith)
    (λ k d below. c.loop-core.invariant.each k d (omega arith))
