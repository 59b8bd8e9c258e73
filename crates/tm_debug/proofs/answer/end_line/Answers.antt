use Rattle.std.proofs.Common.{rules}
use Rattle.text_out.proofs.Writing.{writes_err, writes_stopped, writes_then}
use Rattle.text_out.specs.TextLine.{line_end}
use Rattle.tm_debug.proofs.answer.end_line.Goals as goal

pub returns-in_err-write_place : goal.returns-in_err-write_place
returns-in_err-write_place g c =
    writes_stopped line_end c.from_residual.result (search rules) c.in_err-write_place.ensures

pub returns-in_err-put : goal.returns-in_err-put
returns-in_err-put g c =
    let r = c.from_residual-in_err-put.result in
    writes_then (g.O.Out.device c.put.new.self) line_end r c.in_ok-write_place.ensures
    (writes_err line_end r (search rules) c.in_err-put.ensures)
