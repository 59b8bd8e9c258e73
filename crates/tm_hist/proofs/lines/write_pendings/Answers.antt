use Rattle.std.proofs.Common.{rules, arith, length}
use Rattle.tm_hist.specs.Lines.{pending_text}
use Rattle.tm_hist.proofs.Rows.{writes_stopped_row, wrote_row}
use Rattle.tm_hist.proofs.lines.write_pendings.Goals as goal

pub returns-in_err-write_pending : goal.returns-in_err-write_pending
returns-in_err-write_pending g c =
    writes_stopped_row (pending_text c.args.machine.now) c.loop-core.core (length c.args.machine.now.views)
    c.from_residual.result
    (search rules) (omega arith) c.loop-core.invariant c.in_err-write_pending.ensures

pub loop-core-preserved : goal.loop-core-preserved
loop-core-preserved g c =
    wrote_row (pending_text c.args.machine.now) c.loop-core.core c.loop-core.invariant c.in_ok-write_pending.ensures
