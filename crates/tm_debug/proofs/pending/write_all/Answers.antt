use Rattle.std.proofs.Common.{rules, arith}
use Rattle.tm_hist.proofs.Rows.{writes_stopped_row, wrote_row}
use Rattle.tm_debug.specs.Session.{pending_lines}
use Rattle.tm_debug.proofs.pending.write_all.Goals as goal

pub returns-in_err-write_stores : goal.returns-in_err-write_stores
returns-in_err-write_stores g c =
    writes_stopped_row (pending_lines c.args.machine.now) c.loop-core.core c.args.count c.from_residual.result
    (search rules) (omega arith) c.loop-core.invariant c.in_err-write_stores.ensures

pub loop-core-preserved : goal.loop-core-preserved
loop-core-preserved g c =
    wrote_row (pending_lines c.args.machine.now) c.loop-core.core c.loop-core.invariant c.in_ok-write_stores.ensures
