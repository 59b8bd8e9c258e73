use Rattle.std.proofs.Common.{◌∙◌}
use Rattle.text_out.proofs.Writing.{wrote_then}
use Rattle.elide_stats.proofs.columns.put_number.Goals as goal

pub returns : goal.returns
returns g c =
    let number = rw (c.as_bytes.ensures.value ∙ c.format.ensures.text) at c.in_ok-put-2.ensures in
    wrote_then c.in_ok-put.ensures number
