use Rattle.std.proofs.Common.{inl, inr, subst, sym}
use Rattle.std.proofs.lemmas.Result.{IfErr-weaker}
use Rattle.std.specs.Prelude.{◌⊎◌}
use Rattle.elide_setup.proofs.StepsRefused.{refused_as}
use Rattle.elide_setup.specs.Refused.{IsDue, IsNextDrawn, IsNoWalk, IsStepRefused, IsUnrecorded}
use Rattle.elide_setup.specs.declared.fault.Refusal.{Refusal}
use Rattle.elide_setup.specs.declared.plan.Course.{Course}
use Rattle.elide_setup.proofs.plan.Course.walk_recorded.Goals as goal

pub returns-in-Drawn-clause-refused : goal.returns-in-Drawn-clause-refused
returns-in-Drawn-clause-refused g c =
    let course = c.args.self.now in
    let maker = c.args.maker.now in
    let drawn = c.in-Drawn.drawn in
    IfErr-weaker c.walk_written-walked.result
    (λ (why : Refusal).
    IsStepRefused g.S.StepMaker.takes g.S.StepMaker.refuses (IsNextDrawn drawn c.args.cores) maker why
    ⊎ IsUnrecorded c.args.path why)
    (λ (why : Refusal). IsNoWalk g.S.StepMaker.takes g.S.StepMaker.refuses course c.args.cores maker why
    ⊎ IsUnrecorded c.args.path why)
    (λ why. elim [
      | inl refused ↦
          inl (inl (refused_as g.S.StepMaker.takes g.S.StepMaker.refuses (IsDue course c.args.cores)
          (IsNextDrawn drawn c.args.cores) maker why
          (λ made pick next. subst (λ (of : Course). IsDue of c.args.cores made pick) (sym c.in-Drawn.is) next)
          refused))
      | inr lost ↦ inr lost
    ])
    c.walk_written-walked.ensures.refused
