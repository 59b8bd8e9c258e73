use Rattle.std.proofs.Common.{◌≡◌, true, not, get_or, refl, sym, ap, ◌∙◌, ⊎_elim, arith}
use Rattle.std.proofs.lemmas.Bool.{cases_eq}
use Rattle.std.specs.FinSet as set
use Rattle.tm_sets.specs.LineSet.{lines_of}
use Rattle.tm_sets.proofs.Same.{subset_of, not_subset}
use Rattle.tm_sets.proofs.line_set.are_within.Goals as goal

pub loop-line-init : goal.loop-line-init
loop-line-init c = λ k b. absurd (omega arith)

pub returns-then-is_none : goal.returns-then-is_none
returns-then-is_none c =
    sym (not_subset c.args.lines.now (lines_of c.args.others.now) c.loop-line.line-index
    (get_or c.args.lines.now c.loop-line.line-index 0) c.loop-line-test.true refl
    (sym c.place_in.ensures.found ∙ c.is_none.ensures ∙ ap not c.if-is_none.true))

pub loop-line-preserved : goal.loop-line-preserved
loop-line-preserved c = λ k b.
    let here : set.contains (lines_of c.args.others.now) (get_or c.args.lines.now c.loop-line.line-index 0) ≡ true =
    sym c.place_in.ensures.found ∙ c.is_none.ensures ∙ ap not c.if-is_none.false in
    ⊎_elim
    (λ (e : k ≡ c.loop-line.line-index).
    ap (λ i. set.contains (lines_of c.args.others.now) (get_or c.args.lines.now i 0)) e ∙ here)
    (λ (d : k ≡ c.loop-line.line-index → ⊥). c.loop-line.invariant k (omega arith))
    (cases_eq k c.loop-line.line-index)

pub returns : goal.returns
returns c = sym (subset_of c.args.lines.now (lines_of c.args.others.now)
    (λ k b. c.loop-line.invariant k (omega (arith, c.loop-line-test.false))))
