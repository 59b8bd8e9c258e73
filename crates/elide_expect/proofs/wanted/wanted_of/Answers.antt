use Rattle.std.proofs.Common.{rules, ◌≡◌, false, Option, IfOk, sym, ◌∙◌, ap, subst, nat_eq}
use Rattle.std.proofs.lemmas.List.{take_rest}
use Rattle.std.specs.Prelude.{codes, option_map}
use Rattle.std.specs.Cmp.Lexicographic.{pointwise}
use Rattle.elide_expect.specs.declared.expectation.Rule.TheVariants.{AtLeast, Exactly, Never}
use Rattle.elide_expect.specs.Comments.{trimmed}
use Rattle.elide_expect.specs.Expectations.{Wanted, line_of, outcomes_of, status_of, wanted}
use Rattle.elide_expect.proofs.ReadWanted.{is_at_least, is_exactly, is_line, is_never, is_status}
use Rattle.elide_expect.proofs.wanted.wanted_of.Goals as goal

pub returns-then-starts_with : goal.returns-then-starts_with
returns-then-starts_with c =
    let text = c.args.text.now in
    let a : pointwise nat_eq text (codes "no failure") ≡ false = search rules in
    c.status_of.ensures ∙ ap status_of (c.trimmed.ensures ∙ ap trimmed (take_rest text 7))
    ∙ is_status text a
    (sym c.starts_with.ensures.value ∙ c.if-starts_with.true)

pub returns-then-starts_with-2 : goal.returns-then-starts_with-2
returns-then-starts_with-2 c =
    let text = c.args.text.now in
    let a : pointwise nat_eq text (codes "no failure") ≡ false = search rules in
    subst (λ (w : Option Wanted). IfOk c.line_of.result (λ line. option_map wanted line ≡ w))
    (ap line_of (c.trimmed-then-starts_with-2.ensures ∙ ap trimmed (take_rest text 5))
    ∙ is_line text a
    (sym c.starts_with.ensures.value ∙ c.if-starts_with.false)
    (sym c.starts_with-else-starts_with.ensures.value ∙ c.if-starts_with-2.true)) c.line_of.ensures

pub returns-then-starts_with-3 : goal.returns-then-starts_with-3
returns-then-starts_with-3 c =
    let text = c.args.text.now in
    let a : pointwise nat_eq text (codes "no failure") ≡ false = search rules in
    subst (λ (w : Option Wanted). IfOk c.outcomes_of.result (λ outcomes. option_map wanted outcomes ≡ w))
    (ap (outcomes_of Exactly) (take_rest text 8)
    ∙ is_exactly text a
    (sym c.starts_with.ensures.value ∙ c.if-starts_with.false)
    (sym c.starts_with-else-starts_with.ensures.value ∙ c.if-starts_with-2.false)
    (sym c.starts_with-else-starts_with-2.ensures.value ∙ c.if-starts_with-3.true)) c.outcomes_of.ensures

pub returns-then-starts_with-4 : goal.returns-then-starts_with-4
returns-then-starts_with-4 c =
    let text = c.args.text.now in
    let a : pointwise nat_eq text (codes "no failure") ≡ false = search rules in
    subst
    (λ (w : Option Wanted). IfOk c.outcomes_of-then-starts_with-4.result (λ outcomes. option_map wanted outcomes ≡ w))
    (ap (outcomes_of AtLeast) (take_rest text 9)
    ∙ is_at_least text a
    (sym c.starts_with.ensures.value ∙ c.if-starts_with.false)
    (sym c.starts_with-else-starts_with.ensures.value ∙ c.if-starts_with-2.false)
    (sym c.starts_with-else-starts_with-2.ensures.value ∙ c.if-starts_with-3.false)
    (sym c.starts_with-else-starts_with-3.ensures.value ∙ c.if-starts_with-4.true))
    c.outcomes_of-then-starts_with-4.ensures

pub returns-then-starts_with-5 : goal.returns-then-starts_with-5
returns-then-starts_with-5 c =
    let text = c.args.text.now in
    let a : pointwise nat_eq text (codes "no failure") ≡ false = search rules in
    subst
    (λ (w : Option Wanted). IfOk c.outcomes_of-then-starts_with-5.result (λ outcomes. option_map wanted outcomes ≡ w))
    (ap (outcomes_of Never) (take_rest text 6)
    ∙ is_never text a
    (sym c.starts_with.ensures.value ∙ c.if-starts_with.false)
    (sym c.starts_with-else-starts_with.ensures.value ∙ c.if-starts_with-2.false)
    (sym c.starts_with-else-starts_with-2.ensures.value ∙ c.if-starts_with-3.false)
    (sym c.starts_with-else-starts_with-3.ensures.value ∙ c.if-starts_with-4.false)
    (sym c.starts_with-else-starts_with-4.ensures.value ∙ c.if-starts_with-5.true))
    c.outcomes_of-then-starts_with-5.ensures
