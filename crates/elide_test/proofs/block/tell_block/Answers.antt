use Rattle.std.proofs.Common.{ℕ, List, subst}
use Rattle.std.specs.Prelude.{string_bytes}
use Rattle.text_out.proofs.Writing.{wrote_then}
use Rattle.text_out.specs.Writing.{Wrote}
use Rattle.elide_test.specs.Tap.{block_text, scalar}
use Rattle.elide_test.proofs.block.tell_block.Goals as goal

pub returns : goal.returns
unfolding block_text
returns g c =
    let device = g.O.Out.device in
    let TellsScalar : List ℕ → Type 0 =
    λ text. Wrote (device c.put-2.new.self) (device c.tell_scalar.new.out) (scalar text) in
    let expected = subst TellsScalar c.as_str.ensures.value c.in_ok-tell_scalar.ensures in
    wrote_then c.in_ok-put.ensures (wrote_then c.in_ok-tell_number.ensures (wrote_then c.in_ok-put-2.ensures
    (wrote_then expected (wrote_then c.in_ok-put-3.ensures (wrote_then c.in_ok-tell_number-2.ensures
    (wrote_then c.in_ok-put-4.ensures (wrote_then c.in_ok-tell_refusal.ensures c.in_ok-put-5.ensures)))))))
