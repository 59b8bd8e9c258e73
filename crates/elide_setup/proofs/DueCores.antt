-- Each step that is due is of a core that there is, and steps leave as many cores as there were.
use Rattle.std.proofs.Common.{◌≡◌, ◌<◌, ◌∙◌, ℕ, List, [], ◌∷◌, ◌++◌, length, arith, ap, subst, length-append}
use Rattle.std.specs.Prelude.{All}
use Rattle.std.proofs.Math.Seq.{get_or-append_seam}
use Rattle.std.proofs.lemmas.List.{length-map}
use Rattle.tm_model.specs.declared.outcome.Outcome.{Outcome}
use Rattle.tm_model.specs.declared.outcome.Pick.{Pick}
use Rattle.ia_image.specs.Program.{ProgramValue as Program}
use Rattle.elide_setup.specs.Refused.{IsDue, IsNoCore}
use Rattle.elide_setup.specs.Runs.{AreMachineSteps, IsRunOf}
use Rattle.elide_setup.specs.Schedules.{listed_in, most_of, picks_made}
use Rattle.tm_core.specs.declared.limits.Limits.{Limits}
use Rattle.tm_core.specs.Theorem.{ShownMachine as Machine}
use Rattle.elide_setup.specs.Walks.{Leads, PartsLead}
use Rattle.elide_setup.specs.declared.fault.Refusal.{Refusal}
use Rattle.elide_setup.specs.declared.plan.Course.{Course}
use Rattle.elide_setup.specs.declared.plan.Course.TheVariants as course

-- one that stands in a list whose steps are all of such cores
among : (cores : ℕ) (steps later : List Pick) (pick : Pick) →
    All (λ (p : Pick). p.core < cores) (steps ++ pick ∷ later) → pick.core < cores
among cores steps later pick fit =
    let below : length steps < length (steps ++ pick ∷ later) = omega (arith, length-append steps (pick ∷ later)) in
    subst (λ (p : Pick). p.core < cores) (get_or-append_seam steps pick later pick) (fit (length steps) pick below)

-- of a course whose list was looked through
pub due_core : (asked : Course) (cores : ℕ) (made : List (Pick × Outcome)) (pick : Pick) →
    All (λ (p : Pick). p.core < cores) (listed_in asked) → IsDue asked cores made pick → pick.core < cores
due_core (course.Listed listed) cores made pick fit due =
    among cores (picks_made made) due.0 pick
    (subst (λ (l : List Pick). All (λ (p : Pick). p.core < cores) l) due.1 fit)
due_core (course.Drawn drawn) cores made pick fit due = due.core

parts_cores : (parts : List (List (Pick × Outcome))) (before after : Machine) →
    PartsLead AreMachineSteps before parts after → length after.views ≡ length before.views
parts_cores [] before after h = ap (λ (m : Machine). length m.views) h
parts_cores (part ∷ parts) before after h = parts_cores parts h.0 after h.2 ∙ h.1.same.cores

-- steps leave as many cores as there were
pub same_cores : (made : List (Pick × Outcome)) (before after : Machine) → Leads AreMachineSteps before made after →
    length after.views ≡ length before.views
same_cores made before after lead = parts_cores lead.0 before after lead.2

-- fewer steps were made than a course has at most
pub due_few : (asked : Course) (cores : ℕ) (made : List (Pick × Outcome)) (pick : Pick) →
    IsDue asked cores made pick → length made < most_of asked
due_few (course.Listed listed) cores made pick due =
    let all : length listed.items ≡ length (picks_made made ++ pick ∷ due.0) =
    ap (λ (l : List Pick). length l) due.1 in
    omega
    (arith, all, length-append (picks_made made) (pick ∷ due.0), length-map made (λ (one : Pick × Outcome). one.0))
due_few (course.Drawn drawn) cores made pick due = due.few

-- a run of a program has its cores
pub has_core : (program : Program) (limits : Limits) (made : List (Pick × Outcome)) (machine : Machine) (pick : Pick)
    (why : Refusal) → IsRunOf program limits made machine → pick.core < length program.entries
    → IsNoCore machine pick why → ⊥
has_core program limits made machine pick why ran below none =
    let same = ran.is_run.same.cores in
    let first = ran.cores in
    let beyond = none.beyond in
    omega arith
