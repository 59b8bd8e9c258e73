use Rattle.text_out.proofs.Writing.{wrote_then}
use Rattle.elide_test.proofs.tap.tell_until.Goals as goal

pub returns : goal.returns
returns g c = wrote_then c.in_ok-put.ensures c.in_ok-tell_each.ensures.told
