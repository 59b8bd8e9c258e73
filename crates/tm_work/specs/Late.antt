-- The drains of a worker's stores that are late (docs/FORMATS.md, "Drains that are drawn").
use Rattle.std.specs.Prelude.{◌≡◌, ◌⊎◌, ℕ, ◌-◌, ◌≤◌, ◌<◌, ◌==◌, ◌&&◌, Bool, true, false, List, [], ◌++◌, count_by}
use Rattle.std.specs.Prelude.{length, replicate}
use Rattle.tm_core.specs.Theorem.{pending_at}
use Rattle.tm_hist.specs.Board.{IsFull, IsStopped, ShownBoard, pairs_behind}
use Rattle.tm_model.specs.declared.outcome.Outcome.{Outcome}
use Rattle.tm_model.specs.declared.outcome.Outcome.TheVariants as outcome

-- with this outcome a store drains
abbrev pub is_drain : Outcome → Bool
is_drain outcome.Drained = true
is_drain outcome.Plain = false
is_drain outcome.Loaded = false
is_drain (outcome.Stopped why) = false
is_drain outcome.Idle = false
is_drain outcome.Begun = false
is_drain outcome.Inside = false
is_drain outcome.Committed = false
is_drain (outcome.Aborted status) = false
is_drain (outcome.AbortedBy by status) = false

-- whether a store of a core drains with a step
abbrev pub is_drain_of : ℕ → ℕ × Outcome → Bool
is_drain_of core step = (step.0 == core) && is_drain step.1

-- how many stores of a core drain with these steps
abbrev pub drains_of : ℕ → List (ℕ × Outcome) → ℕ
drains_of core steps = count_by (λ (step : ℕ × Outcome). is_drain_of core step) steps

-- so many drains of a core
abbrev pub drains_alone : ℕ → ℕ → List (ℕ × Outcome)
drains_alone core many = replicate many (core, outcome.Drained)

-- no store of a core can drain: none is pending, or the core has stopped or the history is full
abbrev pub IsDry : ShownBoard → ℕ → Type 0
IsDry board core = (pending_at board.machine core ≡ []) ⊎ (IsStopped board core ⊎ IsFull board)

-- so many stores of a core were drained, of so many that were to be, as long as one could
pub record AreDrained (before after : ShownBoard) (core asked made : ℕ) : Type 0 where
  pub most : made ≤ asked
  pub history : after.history ≡ before.history ++ drains_alone core made
  pub all : made < asked → IsDry after core

-- A burst of a core, which begins with drains of so many stores. Those are late behind it that were pending behind
-- these drains and that the burst's steps did not drain.
pub record IsDrainedBurst (before after : ShownBoard) (core late still : ℕ) : Type 0 where
  pub begun : ShownBoard
  pub drained : ℕ
  pub drains : AreDrained before begun core late drained
  pub left : still ≡ length (pending_at begun.machine core) - drains_of core (pairs_behind begun after)
