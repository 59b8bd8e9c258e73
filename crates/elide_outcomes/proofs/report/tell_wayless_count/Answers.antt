use Rattle.std.proofs.Common.{◌∙◌}
use Rattle.text_out.proofs.Writing.{wrote_then}
use Rattle.elide_outcomes.proofs.report.tell_wayless_count.Goals as goal

pub returns : goal.returns
returns g c =
    let number = rw (c.as_bytes.ensures.value ∙ c.format.ensures.text) at c.in_ok-put-2.ensures in
    wrote_then (wrote_then c.in_ok-put.ensures number) c.in_ok-put-3.ensures
