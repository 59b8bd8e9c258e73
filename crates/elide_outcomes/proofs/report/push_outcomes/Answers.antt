use Rattle.std.proofs.Common.{append_assoc}
use Rattle.elide_outcomes.proofs.report.push_outcomes.Goals as goal

pub returns : goal.returns
returns c =
    rw (
      c.push-4.ensures.text,
      c.push-3.ensures.text,
      c.push-2.ensures.text,
      c.push.ensures.text,
      c.as_bytes.ensures.value,
      c.as_bytes-2.ensures.value,
      c.format.ensures.text,
      c.format-2.ensures.text,
    )
    (simp append_assoc)
