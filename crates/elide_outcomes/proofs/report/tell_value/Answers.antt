use Rattle.std.proofs.Common.{ℕ, List, Option, subst}
use Rattle.text_out.proofs.Writing.{wrote_then}
use Rattle.text_out.specs.Writing.{Wrote}
use Rattle.elide_outcomes.specs.Lines.{name_text}
use Rattle.elide_outcomes.proofs.report.tell_value.Goals as goal

pub returns : goal.returns
returns g c =
    let device = g.O.Out.device in
    let name = subst
    (λ (n : Option (List ℕ)). Wrote (device c.tell_digits.new.out) (device c.tell_name.new.out) (name_text n))
    c.label_at.ensures c.in_ok-tell_name.ensures in
    wrote_then (wrote_then c.in_ok-tell_digits.ensures name) c.in_ok-put.ensures
