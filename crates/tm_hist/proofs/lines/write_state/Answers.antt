use Rattle.std.proofs.Common.{rules}
use Rattle.text_out.proofs.Writing.{writes_stopped, writes_then}
use Rattle.tm_hist.specs.Lines.{pendings_text}
use Rattle.tm_hist.proofs.lines.write_state.Goals as goal

pub returns-in_err-write_cores : goal.returns-in_err-write_cores
returns-in_err-write_cores g c =
    writes_stopped (pendings_text c.args.machine.now) c.from_residual.result (search rules) c.in_err-write_cores.ensures

pub returns : goal.returns
returns g c =
    writes_then _ (pendings_text c.args.machine.now) c.write_pendings.result c.in_ok-write_cores.ensures
    c.write_pendings.ensures
