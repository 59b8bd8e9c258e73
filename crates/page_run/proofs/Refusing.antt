-- Why the steps of a page's run are not made.
use Rattle.std.proofs.Common.{◌≡◌, ◌∙◌, ◌⊎◌, ℕ, List, Result, Ok, Err, inl, inr, length, subst, ⊎_elim}
use Rattle.std.specs.Prelude.{IfErr}
use Rattle.tm_model.specs.declared.outcome.Outcome.{Outcome}
use Rattle.tm_model.specs.declared.outcome.Pick.{Pick}
use Rattle.elide_setup.specs.Refused.{IsNoCore, IsNoWalk, IsStepRefused, IsUntold, NamesNoCore, IsDue}
use Rattle.elide_setup.specs.Schedules.{listed_in}
use Rattle.tm_core.specs.Theorem.{ShownMachine as Machine}
use Rattle.elide_setup.specs.declared.fault.Refusal.{Refusal}
use Rattle.elide_setup.specs.declared.machine.Setup.{Setup}
use Rattle.elide_setup.specs.declared.plan.Course.{Course}
use Rattle.page_run.proofs.Cores.{cores_kept, names_no_core}
use Rattle.page_run.specs.Refused.{IsNotMade, IsNotSurveyed, IsNotTold}
use Rattle.page_run.specs.declared.stretch.Stretch.{Stretch}

-- one call answers the refusal of another
pub handed_on : {A B E : Type 0} (first : Result A E) (last : Result B E) (P : E → Type 0) →
    IfErr last (λ why. first ≡ Err why) → IfErr first P → IfErr last P
handed_on first (Ok b) P h k = tt
handed_on {A} {B} {E} first (Err why) P h k = subst (λ (r : Result A E). IfErr r P) h k

-- a step that is due is of a core that the machine has not
not_made_of : {Maker : Type 0} {takes : Maker → List (Pick × Outcome) → Maker → Type 0}
    {refuses : Maker → Pick → Refusal → Type 0} (machine : Maker → Machine)
    (each : (a : Maker) (steps : List (Pick × Outcome)) (b : Maker) → takes a steps b →
    length (machine b).views ≡ length (machine a).views)
    (setup : Setup) (asked : Course) (cores : ℕ) (before : Maker) (why : Refusal) →
    length (machine before).views ≡ cores → cores ≡ length setup.program.entries →
    (h : IsStepRefused takes refuses (IsDue asked cores) before why) → IsNoCore (machine h.after) h.pick why →
    IsNotMade setup asked why
not_made_of {Maker} {takes} {refuses} machine each setup asked cores before why same entries h none =
    let kept : length (machine h.after).views ≡ cores =
    cores_kept (λ (m : Maker). length (machine m).views) each h.made before h.after h.lead ∙ same in
    IsNotMade.no_core (subst (λ n. NamesNoCore (listed_in asked) n why) entries
    (names_no_core asked cores (machine h.after) h.made h.pick why kept h.due none))

-- of what is surveyed as it steps
pub not_surveyed_of : {Maker : Type 0} {takes : Maker → List (Pick × Outcome) → Maker → Type 0}
    (machine : Maker → Machine)
    (each : (a : Maker) (steps : List (Pick × Outcome)) (b : Maker) → takes a steps b →
    length (machine b).views ≡ length (machine a).views)
    (setup : Setup) (asked : Course) (cores : ℕ) (before : Maker) (why : Refusal) →
    length (machine before).views ≡ cores → cores ≡ length setup.program.entries →
    IsNoWalk takes (λ (m : Maker) (pick : Pick). IsNoCore (machine m) pick) asked cores before why →
    IsNotSurveyed setup asked why
not_surveyed_of machine each setup asked cores before why same entries (inl h) =
    IsNotSurveyed.not_made (not_made_of machine each setup asked cores before why same entries h h.refused)
not_surveyed_of machine each setup asked cores before why same entries (inr wanting) =
    IsNotSurveyed.no_room (inr wanting)

-- of what is told as it steps
pub not_told_of : {Maker : Type 0} {takes : Maker → List (Pick × Outcome) → Maker → Type 0} (machine : Maker → Machine)
    (each : (a : Maker) (steps : List (Pick × Outcome)) (b : Maker) → takes a steps b →
    length (machine b).views ≡ length (machine a).views)
    (stretch : Stretch) (cores : ℕ) (before : Maker) (why : Refusal) →
    length (machine before).views ≡ cores → cores ≡ length stretch.setup.now.program.entries →
    IsNoWalk takes (λ (m : Maker) (pick : Pick) (why : Refusal). IsNoCore (machine m) pick why ⊎ IsUntold why)
    stretch.course.now cores before why → IsNotTold stretch why
not_told_of machine each stretch cores before why same entries (inl h) =
    ⊎_elim
    (λ (none : IsNoCore (machine h.after) h.pick why).
    IsNotTold.not_made
    (not_made_of machine each stretch.setup.now stretch.course.now cores before why same entries h none))
    (λ (text : IsUntold why). IsNotTold.untold text)
    h.refused
not_told_of machine each stretch cores before why same entries (inr wanting) =
    IsNotTold.untold (inr (inr wanting))
