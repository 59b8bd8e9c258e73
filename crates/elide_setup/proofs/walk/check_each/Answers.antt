use Rattle.std.proofs.Common.{◌<◌, ℕ, slice_index_or, subst}
use Rattle.std.proofs.lemmas.List.{get_or_default}
use Rattle.tm_model.specs.declared.outcome.Pick.{Pick}
use borrow.Author.Count.{below_more}
use Rattle.elide_setup.proofs.walk.check_each.Goals as goal

pub loop-pick-preserved : goal.loop-pick-preserved
loop-pick-preserved c k none below =
    let steps = c.args.steps.now in
    let i = c.loop-pick.pick-index in
    below_more (λ (j : ℕ). (slice_index_or steps j none).core < c.args.cores) i
    (λ j before. c.loop-pick.invariant j none before)
    (subst (λ (pick : Pick). pick.core < c.args.cores) (get_or_default steps i _ none c.loop-pick-test.true)
    c.if-pick-cores.false) k below
