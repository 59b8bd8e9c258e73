-- Which cores the steps of a schedule are of that is drawn, and how many there are (docs/FORMATS.md, "Options of the
-- command line").
use Rattle.std.specs.Prelude.{◌≡◌, ◌≤◌, ◌<◌, ◌↔◌, ◌⊎◌, ◌++◌, ◌∷◌, ◌==◌, ◌&&◌, [], ℕ, ⊤, Bool, true, false, not}
use Rattle.std.specs.Prelude.{List, length, Contains, Option, Some, None, is_some}
use Rattle.std.specs.List.{list_any}
use Rattle.std.specs.Option.{option_copied}
use Rattle.elide_args.specs.declared.subcommand.ScheduleOptions.{ScheduleOptions}
use Rattle.tm_model.specs.declared.outcome.Outcome.{Outcome}
use Rattle.tm_model.specs.declared.outcome.Outcome.TheVariants as outcome
use Rattle.tm_model.specs.declared.outcome.Pick.{Pick}
use Rattle.tm_pick.specs.Turns.{IsInTurn}
use Rattle.elide_setup.specs.Drawing.{limit_said}
use Rattle.elide_setup.specs.Schedules.{are_listed}
use Rattle.elide_setup.specs.declared.plan.Course.{Course}
use Rattle.elide_setup.specs.declared.plan.Course.TheVariants as course
use Rattle.elide_setup.specs.declared.plan.Plan.{Plan}
use Rattle.elide_setup.specs.declared.plan.Plan.TheVariants as plan

-- with this outcome the core has stopped
abbrev pub is_stop : Outcome → Bool
is_stop outcome.Plain = false
is_stop outcome.Loaded = false
is_stop (outcome.Stopped why) = true
is_stop outcome.Idle = false
is_stop outcome.Begun = false
is_stop outcome.Inside = false
is_stop outcome.Committed = false
is_stop (outcome.Aborted status) = false
is_stop (outcome.AbortedBy by status) = false
is_stop outcome.Drained = false

-- a core has stopped with one of these steps
abbrev pub has_stopped : List (Pick × Outcome) → ℕ → Bool
has_stopped steps core = list_any (λ made. (made.0.core == core) && is_stop made.1) steps

-- these are the cores that have not, of so many
abbrev pub AreGoing : ℕ → List (Pick × Outcome) → List ℕ → Type 0
AreGoing cores steps going =
    (core : ℕ) → Contains going core ↔ ((core < cores) × (has_stopped steps core ≡ false))

-- Steps one behind another, the last of this core: each is of a core that has not stopped, of so many. Round by round,
-- it is the core whose turn it is among these behind the core of the step before.
pub data GoOn (is_in_turn : Bool) (cores : ℕ) : Option ℕ → List (Pick × Outcome) → Type 0 where
  at_first : GoOn is_in_turn cores None []
  one_more : {last : Option ℕ} {steps : List (Pick × Outcome)} (pick : Pick) (came_to : Outcome) (going : List ℕ)
      → GoOn is_in_turn cores last steps → AreGoing cores steps going → Contains going pick.core
      → (is_in_turn ≡ true → IsInTurn last going pick.core)
      → GoOn is_in_turn cores (Some pick.core) (steps ++ (pick, came_to) ∷ [])

-- such steps are made to the end: all cores have stopped, or there are as many as there may be
pub record IsDrawnOut (is_in_turn : Bool) (cores most : ℕ) (steps : List (Pick × Outcome)) : Type 0 where
  pub last : Option ℕ
  pub one_by_one : GoOn is_in_turn cores last steps
  pub few : length steps ≤ most
  pub whole : (length steps ≡ most) ⊎ ((core : ℕ) → core < cores → has_stopped steps core ≡ true)

-- steps of a course that is drawn
abbrev pub IsOut : Course → ℕ → List (Pick × Outcome) → Type 0
IsOut (course.Listed listed) cores steps = ⊤
IsOut (course.Drawn drawn) cores steps = IsDrawnOut (not (is_some drawn.seed)) cores drawn.most steps

-- the same of a plan
abbrev pub IsPlannedOut : Plan → ℕ → List (Pick × Outcome) → Type 0
IsPlannedOut (plan.Steps listed) cores steps = ⊤
IsPlannedOut (plan.File path) cores steps = ⊤
IsPlannedOut (plan.Drawn drawn) cores steps = IsDrawnOut (not (is_some drawn.seed)) cores drawn.most steps

-- the same as the options ask: round by round, where it is not drawn by a seed, and at most so many steps as `--limit`
-- says
abbrev pub IsAskedOut : ScheduleOptions → ℕ → List (Pick × Outcome) → Type 0
IsAskedOut options cores steps = are_listed options ≡ false →
    (most : ℕ) × (limit_said (option_copied options.limit) ≡ Some most)
    × IsDrawnOut (not (is_some options.random)) cores most steps
