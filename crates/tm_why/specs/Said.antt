-- What a machine says of a hit, of the bytes that a step reaches, and of what is pending behind it.
use Rattle.std.specs.Prelude.{◌≡◌, ℕ, ◌<◌, Bool, true, false, Option, None, Some, length}
use Rattle.std.specs.Option.{is_some}
use Rattle.tm_model.specs.Explained.{IsHitTold, IsReachTold, owed_now}
use Rattle.tm_model.specs.State.{State, seen_by}
use Rattle.tm_model.specs.Steps.{store_buffered}
use Rattle.tm_model.specs.declared.explain.Hit.{Hit}
use Rattle.tm_model.specs.declared.explain.Reach.{Reach}
use Rattle.tm_model.specs.declared.outcome.Event.TheVariants as event
use Rattle.tm_core.specs.Theorem.{ShownMachine, StandsFor, machine_setting, pending_at}
use Rattle.tm_core.specs.declared.buffering.Buffering.{Buffering}
use Rattle.tm_core.specs.declared.buffering.Buffering.TheVariants.{Pends}

-- of the next step of a core, under no event, the hit by which another core is condemned, in each state that the
-- machine stands for
abbrev pub IsSaidOf : ShownMachine → ℕ → ℕ → Option Hit → Type 0
IsSaidOf machine core other told =
    (state : State) (doomed : ℕ → Option ℕ) → StandsFor machine state doomed →
    IsHitTold None (machine_setting machine) state doomed core other told

-- of a drain of a core in the place of its next step, where a store of it is pending, the same
abbrev pub IsSaidOfDrain : ShownMachine → ℕ → ℕ → Option Hit → Type 0
IsSaidOfDrain machine core other told =
    0 < length (pending_at machine core) →
    (state : State) (doomed : ℕ → Option ℕ) → StandsFor machine state doomed →
    IsHitTold (Some event.Drain) (machine_setting machine) state doomed core other told

-- of the next step of a core, the bytes that it reaches, in each state that the machine stands for
abbrev pub IsReachSaid : ShownMachine → ℕ → Reach → Type 0
IsReachSaid machine core told =
    (state : State) (doomed : ℕ → Option ℕ) → StandsFor machine state doomed →
    IsReachTold (machine_setting machine) (seen_by state core) (state.cores core) (doomed core) told

-- of the next step of a core, under no event, whether its store is pending behind it, in each state that the machine
-- stands for
abbrev pub IsPendsSaid : ShownMachine → ℕ → Bool → Type 0
IsPendsSaid machine core told =
    (state : State) (doomed : ℕ → Option ℕ) → StandsFor machine state doomed →
    told
    ≡ is_some (store_buffered (machine_setting machine) (seen_by state core) (state.cores core)
    (owed_now None (machine_setting machine) state doomed core))

-- what a machine says of the step so
abbrev pub is_pending : Buffering → Bool
is_pending Pends = true
is_pending _ = false
