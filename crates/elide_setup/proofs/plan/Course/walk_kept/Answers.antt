use Rattle.std.proofs.Common.{◌≡◌, List, inl, subst, sym}
use Rattle.std.proofs.lemmas.Result.{IfErr-weaker}
use Rattle.tm_core.specs.declared.fault.RunFault.TheVariants as run
use Rattle.tm_model.specs.declared.outcome.Pick.{Pick}
use Rattle.elide_setup.proofs.StepsRefused.{refused_as, refused_or}
use Rattle.elide_setup.specs.Refused.{IsDue, IsNextDrawn, IsNextOf, IsNoWalk, IsStepRefused}
use Rattle.elide_setup.specs.declared.fault.Fault.TheVariants as fault
use Rattle.elide_setup.specs.declared.fault.Refusal.{Refusal}
use Rattle.elide_setup.specs.declared.fault.Refusal.TheVariants as refusal
use Rattle.elide_setup.specs.declared.plan.Course.{Course}
use Rattle.elide_setup.proofs.plan.Course.walk_kept.Goals as goal

pub returns-in-Listed-clause-refused : goal.returns-in-Listed-clause-refused
returns-in-Listed-clause-refused g c =
    let course = c.args.self.now in
    let maker = c.args.maker.now in
    let listed : List Pick = c.as_slice.result.now in
    IfErr-weaker c.walk_list.result (IsStepRefused g.S.StepMaker.takes g.S.StepMaker.refuses (IsNextOf listed) maker)
    (IsNoWalk g.S.StepMaker.takes g.S.StepMaker.refuses course c.args.cores maker)
    (λ why h.
    inl (refused_as g.S.StepMaker.takes g.S.StepMaker.refuses (IsDue course c.args.cores) (IsNextOf listed) maker why
    (λ made pick next. subst (λ (of : Course). IsDue of c.args.cores made pick) (sym c.in-Listed.is)
    (subst (λ (picks : List Pick). IsNextOf picks made pick) c.as_slice.ensures.value next)) h))
    c.walk_list.ensures.refused

pub returns-in-Drawn-clause-refused : goal.returns-in-Drawn-clause-refused
returns-in-Drawn-clause-refused g c =
    let drawn = c.in-Drawn.drawn in
    refused_or g.S.StepMaker.takes g.S.StepMaker.refuses (IsDue c.args.self.now c.args.cores)
    (IsNextDrawn drawn c.args.cores) c.args.maker.now
    (λ (why : Refusal). why ≡ refusal.Fault (fault.Run run.NoMemory)) c.walk_asked.result
    (λ made pick next. subst (λ (of : Course). IsDue of c.args.cores made pick) (sym c.in-Drawn.is) next)
    c.walk_asked.ensures.refused
