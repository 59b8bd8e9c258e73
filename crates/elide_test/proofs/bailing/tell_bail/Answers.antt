use Rattle.std.proofs.lemmas.Result.{on_ok_weaker}
use Rattle.text_out.proofs.Writing.{wrote_then}
use Rattle.elide_test.proofs.bailing.tell_bail.Goals as goal

pub returns : goal.returns
returns g c =
    on_ok_weaker c.tell_fault.result
    (λ told. (
      told.0,
      wrote_then c.in_ok-put.ensures (wrote_then c.in_ok-tell_text.ensures (wrote_then c.in_ok-put-2.ensures told.1)),
    ))
    c.tell_fault.ensures
