use Rattle.std.proofs.Common.{arith}
use Rattle.elide_stats.proofs.RowsMore.{sum_all, sum_at}
use Rattle.elide_stats.proofs.report.open_steps.Goals as goal

pub loop-core-preserved : goal.loop-core-preserved
loop-core-preserved c =
    sum_at c.args.under_way.now c.loop-core.core c.loop-core.steps c.saturating_add-steps.result (omega arith)
    c.loop-core.invariant (λ few. omega arith)

pub returns : goal.returns
returns c =
    sum_all (λ n. n) c.args.under_way.now c.loop-core.core c.loop-core.steps (omega arith) c.loop-core.invariant
