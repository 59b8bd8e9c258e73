use Rattle.std.proofs.Common.{arith, ◌≡◌, List, [], ap, refl, subst, sym}
use Rattle.std.proofs.lemmas.Bool.{eqb-true}
use Rattle.std.proofs.lemmas.List.{nil_from_length}
use Rattle.std.proofs.lemmas.Result.{err_from_is_err_and}
use Rattle.std.specs.Option.{option_copied}
use Rattle.tm_outcomes.specs.declared.trial.Item.{Item}
use Rattle.elide_outcomes.specs.Items.{SaysItems}
use Rattle.elide_outcomes.specs.Refused.{no_words}
use Rattle.elide_outcomes.proofs.Refusing.{items_refused}
use Rattle.elide_outcomes.proofs.items.items_of.Goals as goal

pub returns-in_err-items : goal.returns-in_err-items
returns-in_err-items c =
    let p = err_from_is_err_and c.from_residual.result c.from_residual.ensures.1 in
    rw (p.1, p.2)
    (items_refused c.args.file.now c.args.is_wanted (option_copied c.args.text) c.in-Some.text.now _
    (ap option_copied c.in-Some.is) c.in_err-items.ensures)

pub returns-then-is_empty : goal.returns-then-is_empty
returns-then-is_empty c =
    let items = c.in_ok-items.items in
    let none_in : items.len ≡ 0 = eqb-true items.len 0 (sym c.if-is_empty.ensures) in
    let empty : items.items ≡ [] = nil_from_length items.items (omega (arith, none_in, items.ok.0)) in
    no_words c.in-Some.text.now (ap option_copied c.in-Some.is)
    (subst (λ (l : List Item). SaysItems c.args.file.now c.in-Some.text.now l) empty c.in_ok-items.ensures) refl
