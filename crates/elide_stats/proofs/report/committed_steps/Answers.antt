use Rattle.std.proofs.Common.{arith}
use Rattle.elide_stats.specs.Rows.{steps_of_size}
use Rattle.elide_stats.proofs.RowsMore.{entry_at, sum_all, sum_more}
use Rattle.elide_stats.proofs.report.committed_steps.Goals as goal

pub loop-index-preserved : goal.loop-index-preserved
loop-index-preserved c =
    let entries = c.args.lengths.now.entries in
    let entry = c.unwrap.result in
    let there =
    entry_at entries c.loop-index.index c.get_index.result entry c.get_index.ensures.entry c.unwrap.ensures in
    sum_more steps_of_size entries c.loop-index.index (entry.0.now, entry.1.now) c.loop-index.steps
    c.saturating_mul.result c.saturating_add-steps.result
    there c.loop-index.invariant (λ few. omega arith) (λ few. omega arith)

pub returns : goal.returns
returns c = sum_all steps_of_size c.args.lengths.now.entries c.loop-index.index c.loop-index.steps (omega arith)
    c.loop-index.invariant
