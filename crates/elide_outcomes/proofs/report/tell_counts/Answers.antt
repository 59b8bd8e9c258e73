use Rattle.text_out.proofs.Writing.{wrote_then}
use Rattle.elide_outcomes.proofs.report.tell_counts.Goals as goal

pub returns : goal.returns
returns g c =
    let numbers = rw (c.as_slice.ensures.value) at c.in_ok-tell_numbers.ensures in
    let cut = rw (c.cut_words.ensures) at c.in_ok-put.ensures in
    wrote_then (wrote_then (wrote_then numbers c.in_ok-tell_wayless.ensures) cut) c.in_ok-put-2.ensures
