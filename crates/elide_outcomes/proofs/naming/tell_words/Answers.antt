use Rattle.std.proofs.Common.{ℕ, List, Bor, ap, subst, sym}
use Rattle.elide_args.specs.Asked.{texts_of}
use Rattle.text_out.proofs.Writing.{wrote_then}
use Rattle.text_out.specs.Writing.{Wrote}
use Rattle.elide_outcomes.specs.Lines.{words_line}
use Rattle.elide_outcomes.proofs.naming.tell_words.Goals as goal

pub returns : goal.returns
returns g c =
    let device = g.O.Out.device in
    let Says : List ℕ → Type 0 = λ text. Wrote (device c.args.out.now) (device c.put-2.new.self) text in
    let first = rw c.as_bytes.ensures.value at c.in_ok-put.ensures in
    subst Says (sym (ap (λ (l : List (Bor (List ℕ))). words_line (texts_of l)) c.in-Some.ensures.cases.0))
    (wrote_then (wrote_then first c.in_ok-tell_rest.ensures) c.in_ok-put-2.ensures)
