use Rattle.std.proofs.Common.{◌∙◌, ◌-◌, ◌≤◌, ℕ, List, ◌++◌, ap, arith, drop, length, subst, take}
use Rattle.std.proofs.lemmas.Grind.{common_steps}
use Rattle.std.proofs.lemmas.Result.{err_from_is_err_and}
use Rattle.elide_setup.specs.Refused.{IsNextOf}
use Rattle.elide_setup.proofs.StepsRefused.{next_behind, refused_behind}
use Rattle.tm_model.specs.declared.outcome.Pick.{Pick}
use Rattle.elide_setup.proofs.Walks.{leads_on, picks_behind, rest_all}
use Rattle.elide_setup.proofs.walk.walk_portion.Goals as goal

pub loop-index-preserved : goal.loop-index-preserved
loop-index-preserved g c =
    let i : ℕ = c.loop-index.index in
    let made = c.loop-index.invariant.made in
    let others = c.in_ok-count.ensures.steps in
    let rest = rest_all c.args.steps.now i (omega arith) in
    let fits = subst (λ (l : List Pick). c.in_ok-count.count ≤ length l) rest c.in_ok-count.ensures.most in
    record {
      most = grind (arith, common_steps, fits);
      made = (
        made.0 ++ others.0,
        picks_behind made.0 others.0 c.args.steps.now i c.in_ok-count.count made.1
            (others.1 ∙ ap (λ (l : List Pick). take c.in_ok-count.count l) rest),
        leads_on g.S.StepMaker.takes made.0 others.0 c.args.maker.now c.loop-index.maker c.walk_front.new.maker
            made.2 others.2,
      );
    }

pub returns-in_err-count-clause-refused : goal.returns-in_err-count-clause-refused
returns-in_err-count-clause-refused g c =
    let i : ℕ = c.loop-index.index in
    let listed = c.args.steps.now in
    let made = c.loop-index.invariant.made in
    let rest = rest_all listed i (omega arith) in
    let p = err_from_is_err_and c.from_residual.result c.from_residual.ensures.1 in
    rw (p.1, p.2)
    (refused_behind g.S.StepMaker.takes g.S.StepMaker.refuses (IsNextOf listed)
    (IsNextOf (take (length listed - i) (drop i listed)))
    made.0 c.args.maker.now c.loop-index.maker c.in_err-count.field-0.0 made.2
    (λ others pick h. next_behind listed (take (length listed - i) (drop i listed)) i made.0 others pick made.1 rest h)
    c.in_err-count.ensures.refused)
