use Rattle.std.proofs.Common.{rules, arith, length}
use Rattle.tm_hist.specs.Lines.{core_text}
use Rattle.tm_hist.proofs.Rows.{writes_stopped_row, wrote_row}
use Rattle.tm_hist.proofs.lines.write_cores.Goals as goal

pub returns-in_err-write_core : goal.returns-in_err-write_core
returns-in_err-write_core g c =
    writes_stopped_row (core_text c.args.machine.now) c.loop-core.core (length c.args.machine.now.views)
    c.from_residual.result
    (search rules) (omega arith) c.loop-core.invariant c.in_err-write_core.ensures

pub loop-core-preserved : goal.loop-core-preserved
loop-core-preserved g c =
    wrote_row (core_text c.args.machine.now) c.loop-core.core c.loop-core.invariant c.in_ok-write_core.ensures
