use Rattle.std.proofs.Common.{rules, ◌++◌}
use Rattle.text_out.proofs.Writing.{writes_stopped, writes_then}
use Rattle.tm_trace.specs.Lines.{insn_behind, values_text}
use Rattle.tm_trace.proofs.line.write_deed.Goals as goal

pub returns-in_err-write_place : goal.returns-in_err-write_place
returns-in_err-write_place g c =
    writes_stopped (insn_behind c.args.deed.now.insn c.args.deed.now.eip ++ values_text c.args.deed.now)
    c.from_residual.result
    (search rules) c.in_err-write_place.ensures

pub returns-in_err-write_behind : goal.returns-in_err-write_behind
returns-in_err-write_behind g c =
    let r = c.from_residual-in_err-write_behind.result in
    let rest = writes_stopped (values_text c.args.deed.now) r (search rules) c.in_err-write_behind.ensures in
    writes_then _ (insn_behind c.args.deed.now.insn c.args.deed.now.eip ++ values_text c.args.deed.now) r
    c.in_ok-write_place.ensures rest

pub returns : goal.returns
returns g c =
    let last = g.O.Out.device c.write_values.new.out in
    writes_then last (insn_behind c.args.deed.now.insn c.args.deed.now.eip ++ values_text c.args.deed.now)
    c.write_values.result c.in_ok-write_place.ensures
    (writes_then last (values_text c.args.deed.now) c.write_values.result c.in_ok-write_behind.ensures
    c.write_values.ensures)
