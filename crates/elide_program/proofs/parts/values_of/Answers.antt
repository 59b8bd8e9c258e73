use Rattle.std.proofs.Common.{ℕ, List, [], Bor, slice_index_or, subst, refl}
use Rattle.std.proofs.lemmas.List.Elements.{Contains-get_or}
use Rattle.elide_program.specs.Refusals.{no_show}
use Rattle.elide_program.specs.Sums.{IsSum}
use Rattle.elide_program.proofs.PartSteps.{one_value}
use Rattle.elide_program.proofs.parts.values_of.Goals as goal

abbrev empty : Bor (List ℕ)
empty = record { ref_ptr = (0, 0); now = [] }

pub loop-text-preserved : goal.loop-text-preserved
loop-text-preserved c =
    let is = subst (λ r. IsSum c.args.file.now (slice_index_or c.args.texts.now c.loop-text.text-index empty).now r)
    c.in-Some.is c.sum_of.ensures in
    one_value c.args.file.now c.args.texts.now _ _ c.loop-text.text-index empty _ c.loop-text-test.true
    c.loop-text.invariant is
    c.in_ok-add.ensures

pub returns-in_default-clause-none : goal.returns-in_default-clause-none
returns-in_default-clause-none c =
    let at : Bor (List ℕ) = slice_index_or c.args.texts.now c.loop-text.text-index empty in
    no_show at (Contains-get_or c.args.texts.now c.loop-text.text-index empty c.loop-text-test.true)
    (subst (λ r. IsSum c.args.file.now at.now r) c.in_default.is c.sum_of.ensures) refl
