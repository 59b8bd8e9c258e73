use Rattle.std.proofs.Common.{◌∙◌, sym, ap, subst, List, ℕ, false, take_all}
use Rattle.std.proofs.lemmas.Option.{get_or_from_slice_get}
use Rattle.std.specs.Cmp.Lexicographic.{same_text, told_text}
use Rattle.tm_outcomes.specs.Outcomes.{AreTold}
use Rattle.tm_outcomes.specs.declared.table.FoundOutcome.{FoundOutcome}
use Rattle.tm_outcomes.proofs.Tables.{told_at, untold_more}
use Rattle.tm_outcomes.proofs.table.index_of.Goals as goal

pub returns-then-eq-clause-told : goal.returns-then-eq-clause-told
returns-then-eq-clause-told c =
    let table = c.args.table.now in
    subst (λ (v : List ℕ). AreTold table v)
    (sym c.as_slice.ensures.value ∙ same_text c.as_slice.result.now c.args.values.now c.if-eq.ensures)
    (told_at table c.loop-index.index c.index-table-index.result c.loop-index-test.true)

pub returns-then-eq-clause-this : goal.returns-then-eq-clause-this
returns-then-eq-clause-this c = λ told is.
    ap (λ (t : FoundOutcome). t.values.items)
    (sym (get_or_from_slice_get c.args.table.now c.loop-index.index told c.index-table-index.result is))
    ∙ (sym c.as_slice.ensures.value ∙ same_text c.as_slice.result.now c.args.values.now c.if-eq.ensures)

pub loop-index-init : goal.loop-index-init
loop-index-init c = λ none. elim none [ ]

pub loop-index-preserved : goal.loop-index-preserved
loop-index-preserved c =
    untold_more c.args.table.now c.loop-index.index c.index-table-index.result c.args.values.now c.loop-index-test.true
    c.loop-index.invariant
    (λ same. told_text c.as_slice.result.now c.args.values.now false c.if-eq.ensures (c.as_slice.ensures.value ∙ same))

pub returns-clause-none : goal.returns-clause-none
returns-clause-none c =
    subst (λ (table : List FoundOutcome). ¬ AreTold table c.args.values.now)
    (take_all c.loop-index.index c.args.table.now c.loop-index-test.false) c.loop-index.invariant
