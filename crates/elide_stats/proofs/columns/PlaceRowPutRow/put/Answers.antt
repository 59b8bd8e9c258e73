use Rattle.text_out.proofs.Writing.{wrote_then}
use Rattle.elide_stats.proofs.columns.PlaceRowPutRow.put.Goals as goal

pub returns : goal.returns
returns g c =
    let place = rw c.as_str.ensures.value at c.in_ok-put_word.ensures in
    let symbol = rw c.as_str-2.ensures.value at c.in_ok-put_last.ensures in
    wrote_then (wrote_then place c.in_ok-put_counts.ensures) symbol
