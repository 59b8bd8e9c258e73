use Rattle.std.proofs.Common.{◌≡◌, ◌++◌, [], List}
use Rattle.std.specs.Prelude.{if◌then◌else◌, is_some, not}
use Rattle.tm_core.specs.declared.fault.RunFault.TheVariants as run
use Rattle.tm_model.specs.declared.outcome.Outcome.{Outcome}
use Rattle.tm_model.specs.declared.outcome.Pick.{Pick}
use Rattle.elide_setup.proofs.StepsKept.{listed_if_asked, never_fails, none_listed, with_other}
use Rattle.elide_setup.specs.Drawing.{ComeAs}
use Rattle.elide_setup.specs.Refused.{IsNextDrawn, IsStepRefused}
use Rattle.elide_setup.specs.Rounds.{IsDrawnOut}
use Rattle.elide_setup.specs.Schedules.{picks_made, picks_told}
use Rattle.elide_setup.specs.Walks.{Leads}
use Rattle.elide_setup.specs.declared.fault.Fault.TheVariants as fault
use Rattle.elide_setup.specs.declared.fault.Refusal.{Refusal}
use Rattle.elide_setup.specs.declared.fault.Refusal.TheVariants as refusal
use Rattle.elide_setup.proofs.walk.walk_asked.Goals as goal

pub returns-then-keeps-clause-walked : goal.returns-then-keeps-clause-walked
returns-then-keeps-clause-walked g c =
    let drawn = c.args.drawn in
    listed_if_asked (λ (steps : List (Pick × Outcome)). ComeAs drawn (picks_made steps))
    (λ (steps : List (Pick × Outcome)). Leads g.S.StepMaker.takes c.args.maker.now steps c.walk_drawn.new.maker)
    (λ (steps : List (Pick × Outcome)). IsDrawnOut (not (is_some drawn.seed)) c.args.cores drawn.most steps)
    c.args.keeps c.args.kept.now c.walk_drawn.new.keeper c.walk_drawn.result c.if-keeps.true c.walk_drawn.ensures.walked

pub returns-clause-refused : goal.returns-clause-refused
returns-clause-refused g c =
    never_fails
    (IsStepRefused g.S.StepMaker.takes g.S.StepMaker.refuses (IsNextDrawn c.args.drawn c.args.cores) c.args.maker.now)
    (λ (why : Refusal). why ≡ refusal.Fault (fault.Run run.NoMemory)) c.walk_drawn-2.result
    c.walk_drawn-2.ensures.refused

pub returns-clause-walked : goal.returns-clause-walked
returns-clause-walked g c =
    let drawn = c.args.drawn in
    let items : List Pick = c.args.kept.now.items in
    with_other _ _ _ (λ (steps : List (Pick × Outcome)). ComeAs drawn (picks_made steps))
    (λ (steps : List (Pick × Outcome)). Leads g.S.StepMaker.takes c.args.maker.now steps c.walk_drawn-2.new.maker)
    (λ (steps : List (Pick × Outcome)). IsDrawnOut (not (is_some drawn.seed)) c.args.cores drawn.most steps)
    (λ (steps : List (Pick × Outcome)). items ≡ items ++ (if c.args.keeps then picks_told steps else []))
    c.walk_drawn-2.result (λ steps. none_listed c.args.keeps items steps c.if-keeps.false) c.walk_drawn-2.ensures.walked
