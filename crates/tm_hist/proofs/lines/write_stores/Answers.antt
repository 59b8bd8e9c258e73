use Rattle.std.proofs.Common.{rules, arith}
use Rattle.tm_hist.specs.Lines.{pending_line}
use Rattle.tm_hist.proofs.Rows.{writes_stopped_item}
use Rattle.tm_hist.proofs.lines.write_stores.Goals as goal

pub returns-in_err-write_store : goal.returns-in_err-write_store
returns-in_err-write_store g c =
    writes_stopped_item (pending_line c.args.core) c.args.stores.now c.loop-store.store-index _ c.from_residual.result
    (search rules) (omega arith) c.loop-store.invariant c.in_err-write_store.ensures
