use Rattle.std.proofs.Common.{rules}
use Rattle.text_out.proofs.Writing.{writes_stopped, writes_then}
use Rattle.elide_setup.specs.Shown.{parts_text}
use Rattle.elide_setup.proofs.shown.show.Goals as goal

pub returns-in_err-write_state : goal.returns-in_err-write_state
returns-in_err-write_state g c =
    writes_stopped (parts_text c.args.memory) c.from_residual.result (search rules) c.in_err-write_state.ensures

pub returns : goal.returns
returns g c =
    writes_then _ (parts_text c.args.memory) c.show_memory.result c.in_ok-write_state.ensures c.show_memory.ensures
