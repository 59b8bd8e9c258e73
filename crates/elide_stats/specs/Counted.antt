-- What is counted of a run (docs/FORMATS.md, "Statistics"): each step that was made, as the machine stood before it.
use Rattle.std.specs.Prelude.{◌≡◌, ℕ, ◌<◌, ◌^◌, Bool, true, false, List, [], ◌∷◌, Option, IfSome, length}
use Rattle.std.specs.FinSet as set
use Rattle.elide_setup.specs.Runs.{IsMachineStep, IsRunOf}
use Rattle.elide_setup.specs.Schedules.{AreOf, picks_made}
use Rattle.tm_core.specs.Theorem.{ShownMachine as Machine, StandsFor, machine_setting, view_at}
use Rattle.tm_model.specs.State.{State, seen_by}
use Rattle.tm_model.specs.Conflicts.{Doomed}
use Rattle.tm_model.specs.Explained.{abort_reason}
use Rattle.tm_model.specs.Runs.{picks_of}
use Rattle.tm_model.specs.declared.explain.AbortReason.{AbortReason}
use Rattle.tm_model.specs.declared.outcome.CoreState.{CoreState}
use Rattle.tm_model.specs.declared.outcome.CoreState.TheVariants as mode
use Rattle.tm_model.specs.declared.outcome.Outcome.{Outcome}
use Rattle.tm_model.specs.declared.outcome.Pick.{Pick}
use Rattle.tm_stats.specs.Counts.{AreCounts}
use Rattle.tm_stats.specs.declared.cause.AbortCause.{AbortCause}
use Rattle.tm_stats.specs.declared.step.Step.{Step}
use Rattle.elide_stats.specs.Causes.{cause_for}
use Rattle.elide_stats.specs.declared.asked.Asked.{Asked}
use Rattle.elide_stats.specs.declared.counting.Counting.{Counting}
use Rattle.elide_stats.specs.declared.told.CountedRun.{CountedRun}
use Rattle.elide_stats.specs.declared.told.CountedRun.TheVariants as run

-- a core in a transaction; no other aborts one
abbrev pub is_inside : CoreState → Bool
is_inside mode.Running = false
is_inside mode.Mid = false
is_inside (mode.Open depth) = true
is_inside (mode.Condemned depth) = true
is_inside (mode.Stopped why) = false

-- why the next step of a core is an abort, where it is one
abbrev pub IsReason : Machine → ℕ → Option AbortReason → Type 0
IsReason machine core reason =
    (state : State) (doomed : Doomed) → StandsFor machine state doomed →
    reason ≡ abort_reason (machine_setting machine) (seen_by state core) (state.cores core) (doomed core)

-- this is the cause of the abort that the next step of a core in a transaction is, where it is one
abbrev pub IsCause : Machine → ℕ → AbortCause → Type 0
IsCause machine core cause =
    is_inside (view_at machine core).mode ≡ true → (state : State) (doomed : Doomed) → StandsFor machine state doomed →
    IfSome (abort_reason (machine_setting machine) (seen_by state core) (state.cores core) (doomed core))
    (λ reason. cause ≡ cause_for reason)

-- what is told of the next step of a core: its place is the EIP of its registers before its open transaction, that of
-- the outermost XBEGIN, also where the step is it (SDM volume 1, 16.3.5)
pub record IsAskedOf (machine : Machine) (core : ℕ) (asked : Asked) : Type 0 where
  pub place : asked.place ≡ (view_at machine core).base.eip
  pub cause : IsCause machine core asked.cause
  pub reads : asked.lines.reads ≡ set.len (view_at machine core).reads
  pub writes : asked.lines.writes ≡ set.len (view_at machine core).writes

-- the same of the step of the core of this number, once it has come to an outcome
pub record IsStep (machine : Machine) (number : ℕ) (came_to : Outcome) (step : Step) : Type 0 where
  pub core : step.core ≡ number
  pub place : step.place ≡ (view_at machine number).base.eip
  pub outcome : step.outcome ≡ came_to
  pub cause : IsCause machine number step.cause
  pub reads : step.reads ≡ set.len (view_at machine number).reads
  pub writes : step.writes ≡ set.len (view_at machine number).writes

-- a machine made these steps one after another, and each was told; what was told stands with the newest first, before
-- what had been told earlier
abbrev pub AreTold : Machine → List Step → List (Pick × Outcome) → Machine → List Step → Type 0
AreTold before earlier [] after told = (after ≡ before) × (told ≡ earlier)
AreTold before earlier (made ∷ steps) after told =
    (next : Machine) × (step : Step) × IsMachineStep before made.0 made.1 next
    × IsStep before made.0.core made.1 step × AreTold next (step ∷ earlier) steps after told

-- what were the counts of the steps that had been told are those of these steps, too, where they are below 2^32
pub record HaveGoneOn (same : AbortCause → AbortCause → Bool) (before : Counting) (earlier : List Step)
    (made : List (Pick × Outcome)) (after : Counting) : Type 0 where
  pub told : List Step
  pub are_told : AreTold before.machine earlier made after.machine told
  pub counts : length told < 2 ^ 32 → AreCounts same before.counts earlier → AreCounts same after.counts told

abbrev pub GoOn : (AbortCause → AbortCause → Bool) → Counting → List (Pick × Outcome) → Counting → Type 0
GoOn same before made after = (earlier : List Step) → HaveGoneOn same before earlier made after

-- the counts are those of the steps that a machine made since this one
pub record AreCounted (same : AbortCause → AbortCause → Bool) (first : Machine) (made : List (Pick × Outcome))
    (counting : Counting) : Type 0 where
  pub told : List Step
  pub are_told : AreTold first [] made counting.machine told
  pub counts : length told < 2 ^ 32 → AreCounts same counting.counts told

-- ---- of a run

-- the machine of the run's program, before its first step
abbrev pub IsFirstOf : CountedRun → Machine → Type 0
IsFirstOf (run.Planned setup course) first = IsRunOf setup.now.program setup.now.limits [] first
IsFirstOf (run.Made board) first = IsRunOf board.now.program board.now.limits [] first

-- the steps are those that the schedule lists, or those of the board's history, in order and none left out; of drawn
-- ones they are under the events that are asked for
abbrev pub AreStepsOf : CountedRun → List (Pick × Outcome) → Type 0
AreStepsOf (run.Planned setup course) made = AreOf course.now (picks_made made)
AreStepsOf (run.Made board) made = picks_made made ≡ picks_of board.now.history

-- the counts are those of the steps of this run, and of no other
pub record HasCounted (same : AbortCause → AbortCause → Bool) (whose : CountedRun) (counting : Counting)
    : Type 0 where
  pub first : Machine
  pub is_first : IsFirstOf whose first
  pub made : List (Pick × Outcome)
  pub steps : AreStepsOf whose made
  pub counted : AreCounted same first made counting
