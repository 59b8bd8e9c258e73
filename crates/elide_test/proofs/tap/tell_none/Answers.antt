use Rattle.text_out.proofs.Writing.{wrote_then}
use Rattle.elide_test.specs.Tap.{none_text}
use Rattle.elide_test.proofs.tap.tell_none.Goals as goal

pub returns : goal.returns
unfolding none_text
returns g c =
    wrote_then c.in_ok-put.ensures (wrote_then c.in_ok-tell_text.ensures c.in_ok-put-2.ensures)
