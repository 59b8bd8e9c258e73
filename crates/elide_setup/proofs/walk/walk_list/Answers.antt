use Rattle.std.proofs.Common.{◌≡◌, ◌∙◌, ℕ, ◌+◌, ◌-◌, ◌++◌, ap, arith, drop, refl, take}
use Rattle.std.proofs.lemmas.Result.{err_from_is_err_and}
use Rattle.elide_setup.specs.Refused.{IsNextOf}
use Rattle.elide_setup.proofs.StepsRefused.{next_behind, next_in_front, refused_behind}
use Rattle.elide_setup.proofs.Walks.{leads_on, picks_behind}
use Rattle.elide_setup.proofs.walk.walk_list.Goals as goal

pub loop-index-preserved : goal.loop-index-preserved
loop-index-preserved g c =
    let i : ℕ = c.loop-index.index in
    let n : ℕ = c.min-count.result in
    let same : i + n - i ≡ n = omega arith in
    let made = c.loop-index.invariant.made in
    let others = c.in_ok-walk_portion.ensures.walked in
    record {
      most = omega arith;
      made = (
        made.0 ++ others.0,
        picks_behind made.0 others.0 c.args.steps.now i n made.1
            (others.1 ∙ ap (λ (k : ℕ). take k (drop i c.args.steps.now)) same),
        leads_on g.S.StepMaker.takes made.0 others.0 c.args.maker.now c.loop-index.maker c.walk_portion.new.maker
            made.2 others.2,
      );
    }

pub returns-in_err-walk_portion-clause-refused : goal.returns-in_err-walk_portion-clause-refused
returns-in_err-walk_portion-clause-refused g c =
    let i : ℕ = c.loop-index.index in
    let n : ℕ = c.min-count.result in
    let listed = c.args.steps.now in
    let made = c.loop-index.invariant.made in
    let p = err_from_is_err_and c.from_residual.result c.from_residual.ensures.1 in
    rw (p.1, p.2)
    (refused_behind g.S.StepMaker.takes g.S.StepMaker.refuses (IsNextOf listed)
    (IsNextOf (take (i + n - i) (drop i listed)))
    made.0 c.args.maker.now c.loop-index.maker c.in_err-walk_portion.field-0.0 made.2
    (λ others pick h. next_behind listed (drop i listed) i made.0 others pick made.1 refl
    (next_in_front (drop i listed) (take (i + n - i) (drop i listed)) (i + n - i) others pick refl h))
    c.in_err-walk_portion.ensures.refused)
