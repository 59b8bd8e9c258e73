-- Of which core a step is that a machine refuses.
use Rattle.std.proofs.Common.{◌≡◌, ◌∙◌, ◌≤◌, ℕ, List, [], ◌∷◌, ◌++◌, ap, arith, length, refl, subst, sym}
use Rattle.std.proofs.lemmas.List.Elements.{Contains-append_right}
use Rattle.std.specs.Prelude.{Contains}
use Rattle.tm_model.specs.declared.outcome.Outcome.{Outcome}
use Rattle.tm_model.specs.declared.outcome.Pick.{Pick}
use Rattle.elide_setup.specs.Refused.{IsDue, IsNoCore, NamesNoCore}
use Rattle.elide_setup.specs.Schedules.{listed_in, picks_made}
use Rattle.tm_core.specs.Theorem.{ShownMachine as Machine}
use Rattle.elide_setup.specs.Walks.{Leads, PartsLead}
use Rattle.elide_setup.specs.declared.fault.Refusal.{Refusal}
use Rattle.elide_setup.specs.declared.plan.Course.{Course}
use Rattle.elide_setup.specs.declared.plan.Course.TheVariants as course

-- ---- the cores stay

parts_keep : {Maker : Type 0} {takes : Maker → List (Pick × Outcome) → Maker → Type 0} (cores : Maker → ℕ)
    (each : (a : Maker) (steps : List (Pick × Outcome)) (b : Maker) → takes a steps b → cores b ≡ cores a)
    (parts : List (List (Pick × Outcome))) (a b : Maker) → PartsLead takes a parts b → cores b ≡ cores a
parts_keep {Maker} {takes} cores each [] a b h = ap cores h
parts_keep {Maker} {takes} cores each (part ∷ parts) a b h =
    parts_keep cores each parts h.0 b h.2 ∙ each a part h.0 h.1

-- what makes the steps has as many cores behind them, where each step leaves it so many
pub cores_kept : {Maker : Type 0} {takes : Maker → List (Pick × Outcome) → Maker → Type 0} (cores : Maker → ℕ)
    (each : (a : Maker) (steps : List (Pick × Outcome)) (b : Maker) → takes a steps b → cores b ≡ cores a)
    (steps : List (Pick × Outcome)) (a b : Maker) → Leads takes a steps b → cores b ≡ cores a
cores_kept {Maker} {takes} cores each steps a b h = parts_keep cores each h.0 a b h.2

-- ---- the step that is refused

among : (listed made later : List Pick) (pick : Pick) → listed ≡ made ++ pick ∷ later → Contains listed pick
among listed made later pick is =
    subst (λ (l : List Pick). Contains l pick) (sym is)
    (Contains-append_right made (pick ∷ later) pick (0, omega arith, refl))

-- that of a list is of a core that the machine has not; of those that are drawn none is refused
pub names_no_core : (asked : Course) (cores : ℕ) (machine : Machine) (made : List (Pick × Outcome)) (pick : Pick)
    (why : Refusal) → length machine.views ≡ cores → IsDue asked cores made pick → IsNoCore machine pick why →
    NamesNoCore (listed_in asked) cores why
names_no_core (course.Listed listed) cores machine made pick why same due none = record {
  tells = none.tells;
  pick = pick;
  among = among listed.items (picks_made made) due.0 pick due.1;
  beyond = subst (λ n. n ≤ pick.core) same none.beyond;
}
names_no_core (course.Drawn drawn) cores machine made pick why same due none =
    absurd (omega (arith, same, due.core, none.beyond))
