use Rattle.std.proofs.Common.{◌∙◌, [], ◌∷◌, None, get_or, refl, replicate, sym}
use Rattle.std.proofs.lemmas.Result.{err_from_is_err_and}
use Rattle.tm_model.specs.declared.outcome.Pick.{Pick}
use Rattle.elide_setup.specs.Refused.{IsNextOf}
use Rattle.elide_setup.specs.Schedules.{lone_pick}
use Rattle.elide_setup.proofs.StepsRefused.{next_first, next_in_front, refused_as, refused_at_once}
use Rattle.elide_setup.proofs.Walks.{first_step, leads_one}
use Rattle.elide_setup.proofs.walk.walk_front.Goals as goal

abbrev none : Pick
none = record { core = 0; event = None }

pub returns-then-count-lt-SHORTEST-clause-steps : goal.returns-then-count-lt-SHORTEST-clause-steps
returns-then-count-lt-SHORTEST-clause-steps g c = (
  (get_or c.args.steps.now 0 none, c.in_ok-make_step.field-0) ∷ [],
  first_step c.args.steps.now c.in_ok-make_step.field-0 none c.requires.some,
  leads_one g.S.StepMaker.takes _ c.args.maker.now c.make_step.new.self c.in_ok-make_step.ensures.made,
)

pub returns-clause-steps : goal.returns-clause-steps
returns-clause-steps g c =
    let made = c.in_ok-walk_run.ensures.walked in
    (made.0, made.1 ∙ sym c.run_length-count.ensures.alike, made.2)

pub returns-in_err-make_step-clause-refused : goal.returns-in_err-make_step-clause-refused
returns-in_err-make_step-clause-refused g c =
    let p = err_from_is_err_and c.from_residual.result c.from_residual.ensures.1 in
    rw (p.1, p.2)
    (refused_at_once g.S.StepMaker.takes g.S.StepMaker.refuses (IsNextOf c.args.steps.now) c.args.maker.now
    (get_or c.args.steps.now 0 none) c.in_err-make_step.field-0.0
    (next_first c.args.steps.now (get_or c.args.steps.now 0 none) none c.requires.some refl)
    c.in_err-make_step.ensures.refused)

pub returns-in_err-walk_run-clause-refused : goal.returns-in_err-walk_run-clause-refused
returns-in_err-walk_run-clause-refused g c =
    let count = c.run_length-count.result in
    let alike = replicate count (lone_pick (get_or c.args.steps.now 0 none).core) in
    let p = err_from_is_err_and c.from_residual-in_err-walk_run.result c.from_residual-in_err-walk_run.ensures.1 in
    rw (p.1, p.2)
    (refused_as g.S.StepMaker.takes g.S.StepMaker.refuses (IsNextOf c.args.steps.now) (IsNextOf alike) c.args.maker.now
    c.in_err-walk_run.field-0.0
    (λ made pick h. next_in_front c.args.steps.now alike count made pick (sym c.run_length-count.ensures.alike) h)
    c.in_err-walk_run.ensures.refused)
