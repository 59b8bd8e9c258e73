use Rattle.std.proofs.Common.{rules, ap}
use Rattle.text_out.specs.Writing.{Device}
use Rattle.elide_device.proofs.Held.{nothing_written}
use Rattle.elide_device.proofs.gathered.GatheredOut.put.Goals as goal

pub returns-in_err-hand_on : goal.returns-in_err-hand_on
returns-in_err-hand_on g c =
    nothing_written _ _ _ _ _ _ _ _ _ c.from_residual.result (search rules) c.if-self-ne0.false
    c.in_err-hand_on.ensures.err.1
    c.in_err-hand_on.ensures.err.0 (ap (λ (d : Device). d.contents) c.in_err-hand_on.ensures.err.2)
