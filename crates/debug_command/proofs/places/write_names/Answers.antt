use Rattle.std.proofs.Common.{rules}
use Rattle.text_out.proofs.Writing.{writes_err}
use Rattle.debug_command.proofs.Labels.{stopped_at}
use Rattle.debug_command.specs.Places.{name_line, names_text}
use Rattle.debug_command.proofs.places.write_names.Goals as goal

pub returns-in_err-write_name_line : goal.returns-in_err-write_name_line
returns-in_err-write_name_line g c =
    writes_err (names_text c.args.labels.now c.args.at) c.from_residual.result (search rules)
    (unfold names_text in stopped_at (name_line c.args.at) c.args.labels.now c.labels.index c.index-labels-index.result
    c.labels-test.true c.index-labels-index.is c.labels.invariant c.in_err-write_name_line.ensures)
