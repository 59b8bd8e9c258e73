use Rattle.std.proofs.Common.{ℕ, List, [], Bor, slice_index_or, subst, refl}
use Rattle.std.proofs.lemmas.List.Elements.{Contains-get_or}
use Rattle.std.specs.Option.{MatchOption}
use Rattle.elide_program.specs.Parts.{IsDump}
use Rattle.elide_program.specs.Refusals.{IsNoPart, no_dump}
use Rattle.elide_program.proofs.PartSteps.{one_dump}
use Rattle.elide_program.proofs.parts.dumps_of.Goals as goal

abbrev empty : Bor (List ℕ)
empty = record { ref_ptr = (0, 0); now = [] }

pub loop-text-preserved : goal.loop-text-preserved
loop-text-preserved c =
    let text : List ℕ = (slice_index_or c.args.texts.now c.loop-text.text-index empty).now in
    let is = subst (λ r. MatchOption r (IsNoPart c.args.file.now text) (IsDump c.args.file.now text))
    c.in-Some.is c.dump_of.ensures in
    one_dump c.args.file.now c.args.texts.now _ _ c.loop-text.text-index empty _ c.loop-text-test.true
    c.loop-text.invariant is
    c.in_ok-add.ensures

pub returns-in_default-clause-none : goal.returns-in_default-clause-none
returns-in_default-clause-none c =
    no_dump (slice_index_or c.args.texts.now c.loop-text.text-index empty)
    (Contains-get_or c.args.texts.now c.loop-text.text-index empty c.loop-text-test.true) c.in_default.ensures refl
