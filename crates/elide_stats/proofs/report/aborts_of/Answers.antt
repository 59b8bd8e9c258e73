use Rattle.std.proofs.Common.{arith}
use Rattle.elide_stats.specs.Rows.{IsAbortRow}
use Rattle.elide_stats.proofs.RowsMore.{entry_at, zip_all, zip_more}
use Rattle.elide_stats.proofs.report.aborts_of.Goals as goal

pub loop-index-preserved : goal.loop-index-preserved
loop-index-preserved c =
    let entries = c.args.causes.now.entries in
    let entry = c.unwrap.result in
    let there =
    entry_at entries c.loop-index.index c.get_index.result entry c.get_index.ensures.entry c.unwrap.ensures in
    zip_more IsAbortRow entries c.loop-index.index (entry.0.now, entry.1.now) c.loop-index.rows.items
    c.add.new.row.items
    c.in_ok-abort_row.field-0 there c.loop-index.invariant c.in_ok-abort_row.ensures c.in_ok-add.ensures

pub returns : goal.returns
returns c =
    zip_all IsAbortRow c.args.causes.now.entries c.loop-index.index c.loop-index.rows.items (omega arith)
    c.loop-index.invariant
