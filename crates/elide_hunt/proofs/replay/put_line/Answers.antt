use Rattle.elide_hunt.proofs.replay.put_line.Goals as goal
use Rattle.elide_shell.proofs.Texts.{then_on_ok, written_on_ok}
use Rattle.text_out.specs.TextLine.{line_end}

pub returns : goal.returns
returns g c =
    then_on_ok _ line_end c.put.result c.in_ok-put_told.ensures (written_on_ok _ _ line_end c.put.result c.put.ensures)
