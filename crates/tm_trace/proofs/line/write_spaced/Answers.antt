use Rattle.std.proofs.Common.{rules}
use Rattle.text_out.proofs.Writing.{writes_stopped, writes_then}
use Rattle.ia_text.specs.Text.{insn_text}
use Rattle.tm_trace.proofs.line.write_spaced.Goals as goal

pub returns-in_err-put : goal.returns-in_err-put
returns-in_err-put g c =
    writes_stopped (insn_text c.args.insn.now c.args.at) c.from_residual.result (search rules) c.in_err-put.ensures

pub returns : goal.returns
returns g c =
    writes_then (g.O.Out.device c.write_insn.new.out) (insn_text c.args.insn.now c.args.at) c.write_insn.result
    c.in_ok-put.ensures
    c.write_insn.ensures
