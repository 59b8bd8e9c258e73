use Rattle.std.proofs.Common.{rules, arith, length, ◌+◌, ◌/◌}
use Rattle.tm_hist.specs.Lines.{dump_line}
use Rattle.tm_hist.proofs.Rows.{writes_stopped_row, wrote_row}
use Rattle.tm_hist.proofs.lines.write_dump.Goals as goal

pub returns-in_err-write_dump_line : goal.returns-in_err-write_dump_line
returns-in_err-write_dump_line g c =
    writes_stopped_row (dump_line c.args.bytes.now c.args.at) c.loop-index.index ((length c.args.bytes.now + 15) / 16)
    c.from_residual.result
    (search rules) (omega arith) c.loop-index.invariant c.in_err-write_dump_line.ensures

pub loop-index-preserved : goal.loop-index-preserved
loop-index-preserved g c = wrote_row (dump_line c.args.bytes.now c.args.at) c.loop-index.index c.loop-index.invariant
    c.in_ok-write_dump_line.ensures
