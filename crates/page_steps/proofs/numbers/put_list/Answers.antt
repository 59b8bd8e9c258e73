use Rattle.std.proofs.Common.{ℕ, List, ap, subst, sym, ◌∙◌}
use Rattle.std.specs.List.{flat_map}
use Rattle.std.specs.Prelude.{OnOk, decimal}
use Rattle.text_out.specs.Writing.{Wrote}
use Rattle.page_steps.specs.Numbers.{behind_comma, numbers_inner}
use Rattle.page_steps.proofs.Texts.{joined_first, then_on_ok}
use Rattle.page_steps.proofs.numbers.put_list.Goals as goal

pub returns : goal.returns
returns g c =
    let first = c.in-Some.first.now in
    let rest = c.in-Some.rest.now in
    let Says : List ℕ → Type 0 =
    λ text. OnOk c.put_more.result (Wrote (g.O.Out.device c.args.out.now) (g.O.Out.device c.put_more.new.out) text) in
    subst Says (sym (ap numbers_inner c.in-Some.ensures.cases.0 ∙ joined_first decimal 44 first rest))
    (then_on_ok _ (flat_map behind_comma rest) c.put_more.result (rw c.from.ensures at c.in_ok-write_number.ensures)
    c.put_more.ensures)
