use Rattle.std.proofs.Common.{◌∷◌, ◌∙◌, sym, subst, List, ℕ, ap}
use Rattle.std.specs.List.{flat_map}
use Rattle.std.specs.Prelude.{OnOk}
use Rattle.tm_schedule.specs.Picks.{pick_word}
use Rattle.text_out.specs.Writing.{Wrote}
use Rattle.elide_shell.specs.Options.{steps_text}
use Rattle.elide_shell.proofs.Texts.{joined_first, then_on_ok}
use Rattle.elide_shell.proofs.schedule.put_words.Goals as goal

pub returns : goal.returns
returns g c =
    let first = c.in-Some.first.now in
    let rest = c.in-Some.rest.now in
    let Says : List ℕ → Type 0 =
    λ text. OnOk c.put_more.result (Wrote (g.O.Out.device c.args.out.now) (g.O.Out.device c.put_more.new.out) text) in
    subst Says (sym (ap steps_text c.in-Some.ensures.cases.0 ∙ joined_first pick_word 32 first rest))
    (then_on_ok _ (flat_map (λ pick. 32 ∷ pick_word pick) rest) c.put_more.result c.in_ok-put_pick.ensures
    c.put_more.ensures)
