use Rattle.text_out.proofs.Writing.{wrote_then}
use Rattle.elide_test.specs.Tap.{line_text}
use Rattle.elide_test.proofs.tap.tell_line.Goals as goal

pub returns : goal.returns
unfolding line_text
returns g c =
    wrote_then c.in_ok-tell_verdict.ensures
    (wrote_then c.in_ok-tell_number.ensures (wrote_then c.in_ok-put.ensures (wrote_then c.in_ok-tell_name.ensures
    (wrote_then c.in_ok-put-2.ensures (wrote_then c.in_ok-tell_name-2.ensures c.in_ok-put-3.ensures)))))
