use Rattle.std.proofs.Common.{◌∙◌, sym}
use Rattle.std.proofs.lemmas.Result.{IfErr-weaker}
use Rattle.elide_setup.specs.Refused.{IsNoWalk}
use Rattle.page_run.proofs.Refusing.{handed_on, not_surveyed_of}
use Rattle.page_run.specs.Refused.{IsNotSurveyed}
use Rattle.page_run.specs.declared.survey.Surveyor.{Surveyor}
use Rattle.page_run.proofs.survey.surveyed.Goals as goal

pub returns : goal.returns
returns g c =
    let setup = c.args.setup.now in
    let asked = c.args.course.now in
    record {
      refused =
          handed_on c.walk-walked.result c.finished.result (IsNotSurveyed setup asked) c.finished.ensures.refused
          (IfErr-weaker c.walk-walked.result (IsNoWalk _ _ asked _ _) (IsNotSurveyed setup asked)
          (λ why none. not_surveyed_of (λ (s : Surveyor). s.machine) (λ a steps b h. h) setup asked _ _ why
          (sym c.cores-cores.ensures.count) (c.cores-cores.ensures.count ∙ c.in_ok-machine.ensures.cores) none)
          c.walk-walked.ensures.refused);
    }
