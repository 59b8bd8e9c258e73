use Rattle.std.proofs.Common.{rules, ◌++◌}
use Rattle.text_out.proofs.Writing.{writes_err, writes_stopped, writes_then}
use Rattle.text_out.specs.TextLine.{line_end}
use Rattle.tm_trace.specs.Lines.{deed_text}
use Rattle.tm_trace.proofs.line.write_step.Goals as goal

pub returns-in_err-write_front : goal.returns-in_err-write_front
returns-in_err-write_front g c =
    writes_stopped (deed_text c.args.labels.now c.args.deed.now ++ line_end) c.from_residual.result (search rules)
    c.in_err-write_front.ensures

pub returns-in_err-write_deed : goal.returns-in_err-write_deed
returns-in_err-write_deed g c =
    let r = c.from_residual-in_err-write_deed.result in
    let rest = writes_stopped line_end r (search rules) c.in_err-write_deed.ensures in
    writes_then _ (deed_text c.args.labels.now c.args.deed.now ++ line_end) r c.in_ok-write_front.ensures rest

pub returns-in_err-put : goal.returns-in_err-put
returns-in_err-put g c =
    let r = c.from_residual-in_err-put.result in
    let last = writes_err line_end r (search rules) c.in_err-put.ensures in
    writes_then _ (deed_text c.args.labels.now c.args.deed.now ++ line_end) r c.in_ok-write_front.ensures
    (writes_then _ line_end r c.in_ok-write_deed.ensures last)
