use Rattle.std.proofs.Common.{append_assoc}
use Rattle.elide_hunt.specs.Lines.{counts_line}
use Rattle.elide_hunt.proofs.report.push_change.Goals as goal

pub returns : goal.returns
unfolding counts_line
returns c =
    rw (
      c.push-3.ensures.text,
      c.push_deciding.ensures.text,
      c.push_counts-2.ensures.text,
      c.push-2.ensures.text,
      c.push_counts.ensures.text,
      c.push.ensures.text,
    )
    (simp append_assoc)
