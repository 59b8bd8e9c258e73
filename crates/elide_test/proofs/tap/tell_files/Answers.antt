use Rattle.std.proofs.Common.{ℕ, subst}
use Rattle.std.specs.Fmt.{decimal}
use Rattle.text_out.proofs.Writing.{wrote_then}
use Rattle.text_out.specs.Writing.{Wrote}
use Rattle.elide_test.specs.Tap.{tap_text}
use Rattle.elide_test.proofs.tap.tell_files.Goals as goal

pub returns : goal.returns
unfolding tap_text
returns g c =
    let device = g.O.Out.device in
    let TellsCount : ℕ → Type 0 = λ n. Wrote (device c.put-2.new.self) (device c.tell_number.new.out) (decimal n) in
    let count = subst TellsCount c.in_ok-count.ensures.count c.in_ok-tell_number.ensures in
    wrote_then c.in_ok-put.ensures
    (wrote_then c.in_ok-count.ensures.told (wrote_then c.in_ok-put-2.ensures (wrote_then count c.in_ok-put-3.ensures)))
