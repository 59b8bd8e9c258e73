use Rattle.std.proofs.Common.{rules}
use Rattle.text_out.proofs.Writing.{writes_stopped, writes_then}
use Rattle.elide_setup.specs.Shown.{values_text}
use Rattle.elide_setup.proofs.shown.show_memory.Goals as goal

pub returns-in_err-show_dumps : goal.returns-in_err-show_dumps
returns-in_err-show_dumps g c =
    writes_stopped (values_text c.args.memory.bytes.now c.args.memory.sums.now c.args.memory.values.now)
    c.from_residual.result
    (search rules) c.in_err-show_dumps.ensures

pub returns : goal.returns
returns g c =
    writes_then _ (values_text c.args.memory.bytes.now c.args.memory.sums.now c.args.memory.values.now)
    c.show_values.result
    c.in_ok-show_dumps.ensures c.show_values.ensures
