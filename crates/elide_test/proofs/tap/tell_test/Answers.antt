use Rattle.std.proofs.Common.{ℕ, List, subst}
use Rattle.text_out.proofs.Writing.{wrote_then}
use Rattle.text_out.specs.Writing.{Wrote}
use Rattle.elide_test.specs.Tap.{line_text, test_text}
use Rattle.elide_test.proofs.tap.tell_test.Goals as goal

pub returns : goal.returns
unfolding test_text
returns g c =
    let device = g.O.Out.device in
    let TellsLine : List ℕ → Type 0 = λ word. Wrote (device c.args.out.now) (device c.tell_line.new.out)
    (line_text c.args.report.now.difference c.args.number c.args.name.now word) in
    wrote_then (subst TellsLine c.as_str.ensures.value c.in_ok-tell_line.ensures) c.in_ok-tell_difference.ensures
