use Rattle.std.proofs.Common.{ℕ, List, subst}
use Rattle.std.specs.Prelude.{OnOk}
use Rattle.text_out.specs.Writing.{Wrote}
use Rattle.elide_outcomes.proofs.ItemWords.{words_same}
use Rattle.elide_outcomes.proofs.naming.tell_rest.Goals as goal

pub returns : goal.returns
returns g c =
    let device = g.O.Out.device in
    subst (λ (text : List ℕ). OnOk c.tell_more.result (Wrote (device c.args.out.now) (device c.tell_more.new.out) text))
    (words_same c.args.words.now) c.tell_more.ensures
