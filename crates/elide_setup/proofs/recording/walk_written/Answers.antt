use Rattle.std.proofs.Common.{◌≡◌, List, ℕ, Option, inl, inr, refl, subst, sym}
use Rattle.std.proofs.lemmas.Result.{IfErr-weaker, IfOk-weaker}
use Rattle.std.specs.Borrow.{Bor}
use Rattle.std.specs.Prelude.{◌⊎◌, IfSome, is_some, not}
use Rattle.tm_model.specs.declared.outcome.Outcome.{Outcome}
use Rattle.tm_model.specs.declared.outcome.Pick.{Pick}
use Rattle.tm_schedule.specs.Schedule.{drawn_text}
use Rattle.elide_setup.proofs.StepsKept.{never_fails, with_other}
use Rattle.elide_setup.specs.Drawing.{ComeAs, may_tell}
use Rattle.elide_setup.specs.Recorded.{IsRecorded}
use Rattle.elide_setup.specs.Refused.{IsNextDrawn, IsStepRefused, IsUnrecorded}
use Rattle.elide_setup.specs.Rounds.{IsDrawnOut}
use Rattle.elide_setup.specs.Schedules.{picks_made, picks_told}
use Rattle.elide_setup.specs.Walks.{Leads}
use Rattle.elide_setup.specs.declared.fault.Fault.TheVariants as fault
use Rattle.elide_setup.specs.declared.fault.Refusal.{Refusal}
use Rattle.elide_setup.specs.declared.fault.Refusal.TheVariants as refusal
use Rattle.elide_setup.proofs.recording.walk_written.Goals as goal

pub returns-in-None-clause-refused : goal.returns-in-None-clause-refused
returns-in-None-clause-refused g c =
    never_fails
    (IsStepRefused g.S.StepMaker.takes g.S.StepMaker.refuses (IsNextDrawn c.args.drawn c.args.cores) c.args.maker.now)
    (IsUnrecorded c.args.path) c.walk_drawn.result c.walk_drawn.ensures.refused

pub returns-in-None-clause-walked : goal.returns-in-None-clause-walked
returns-in-None-clause-walked g c =
    let drawn = c.args.drawn in
    let content : List ℕ → Option (List ℕ) = g.P.Paths.content c.args.paths.now in
    with_other _ _ _ (λ (steps : List (Pick × Outcome)). ComeAs drawn (picks_made steps))
    (λ (steps : List (Pick × Outcome)). Leads g.S.StepMaker.takes c.args.maker.now steps c.walk_drawn.new.maker)
    (λ (steps : List (Pick × Outcome)). IsDrawnOut (not (is_some drawn.seed)) c.args.cores drawn.most steps)
    (λ (steps : List (Pick × Outcome)). IsRecorded content c.args.path
    (drawn_text (may_tell drawn) (picks_told steps)))
    c.walk_drawn.result
    (λ steps. subst
    (λ (path : Option (Bor (List ℕ))). IsRecorded content path (drawn_text (may_tell drawn) (picks_told steps)))
    (sym c.in-None.is) tt)
    c.walk_drawn.ensures.walked

pub returns-in-Some-clause-refused : goal.returns-in-Some-clause-refused
returns-in-Some-clause-refused g c =
    let Step : Refusal → Type 0 =
    IsStepRefused g.S.StepMaker.takes g.S.StepMaker.refuses (IsNextDrawn c.args.drawn c.args.cores) c.args.maker.now in
    IfErr-weaker c.walk_to_file.result (λ (why : Refusal). Step why ⊎ (why ≡ refusal.Fault fault.Output))
    (λ (why : Refusal). Step why ⊎ IsUnrecorded c.args.path why)
    (λ why. elim [
      | inl refused ↦ inl refused
      | inr output ↦
          inr (subst (λ (path : Option (Bor (List ℕ))). IsUnrecorded path why) (sym c.in-Some.is) (output, refl))
    ])
    c.walk_to_file.ensures.refused

pub returns-in-Some-clause-walked : goal.returns-in-Some-clause-walked
returns-in-Some-clause-walked g c =
    let drawn = c.args.drawn in
    let content : List ℕ → Option (List ℕ) = g.P.Paths.content c.walk_to_file.new.paths in
    let Made : List (Pick × Outcome) → Type 0 =
    λ steps. Leads g.S.StepMaker.takes c.args.maker.now steps c.walk_to_file.new.maker in
    let Out : List (Pick × Outcome) → Type 0 =
    λ steps. IsDrawnOut (not (is_some drawn.seed)) c.args.cores drawn.most steps in
    IfOk-weaker c.walk_to_file.result
    (λ _. (steps : List (Pick × Outcome)) × ComeAs drawn (picks_made steps) × Made steps
    × IfSome (content c.in-Some.path.now) (λ held. held ≡ drawn_text (may_tell drawn) (picks_told steps))
    × Out steps)
    (λ _. (steps : List (Pick × Outcome)) × ComeAs drawn (picks_made steps) × Made steps
    × IsRecorded content c.args.path (drawn_text (may_tell drawn) (picks_told steps)) × Out steps)
    (λ _ h. (
      h.0,
      h.1,
      h.2,
      subst (λ (path : Option (Bor (List ℕ))). IsRecorded content path
          (drawn_text (may_tell drawn) (picks_told h.0))) (sym c.in-Some.is) h.3,
      h.4,
    ))
    c.walk_to_file.ensures.walked
