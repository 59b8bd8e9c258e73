-- What a core's next step under no event does with the stores of its core, told before it is made: it waits, for this;
-- its own store is pending from then on; or neither.
use Rattle.std.specs.Prelude.{◌≡◌, ℕ, Bool, true, false, List, None, IsSome}
use Rattle.tm_model.specs.Conflicts.{Doomed}
use Rattle.tm_model.specs.Owed.{owed_outcome}
use Rattle.tm_model.specs.Setting.{Setting}
use Rattle.tm_model.specs.State.{Core, Pending, State, seen_by}
use Rattle.tm_model.specs.Steps.{must_wait, needs_none, store_buffered}
use Rattle.tm_core.specs.declared.buffering.Buffering.{Buffering}
use Rattle.tm_core.specs.declared.buffering.Buffering.TheVariants as buffering
use Rattle.tm_core.specs.declared.buffering.Wait.{Wait}
use Rattle.tm_core.specs.declared.buffering.Wait.TheVariants as wait
use Rattle.tm_core.specs.Theorem.{ShownMachine, StandsFor, machine_setting}
use Rattle.tm_core.specs.Types.{Outcome}

-- it waits until no store of its core is pending, and not for room
abbrev pub is_for_none : Wait → Bool
is_for_none wait.ForNone = true
is_for_none wait.ForRoom = false

-- The step to which this outcome is owed, of a core that sees this memory, waits for this: that no store is pending,
-- where its rule needs that; and else that there is room for its own.
pub record IsAwaited (setting : Setting) (seen : List ℕ) (pending : Pending) (core : Core) (outcome : Outcome)
    (wait : Wait) : Type 0 where
  pub waits : must_wait setting seen pending core outcome ≡ true
  pub needs : needs_none setting core outcome ≡ is_for_none wait

-- it does this with the stores of its core
abbrev pub IsBuffering : Setting → List ℕ → Pending → Core → Outcome → Buffering → Type 0
IsBuffering setting seen pending core outcome (buffering.Waits wait) =
    IsAwaited setting seen pending core outcome wait
IsBuffering setting seen pending core outcome buffering.Pends =
    (must_wait setting seen pending core outcome ≡ false) × IsSome (store_buffered setting seen core outcome)
IsBuffering setting seen pending core outcome buffering.Goes =
    (must_wait setting seen pending core outcome ≡ false) × (store_buffered setting seen core outcome ≡ None)

-- of the next step of the core of this number, whatever state the machine stands for
abbrev pub TellsAhead : ShownMachine → ℕ → Buffering → Type 0
TellsAhead machine number told =
    (state : State) (doomed : Doomed) → StandsFor machine state doomed →
    IsBuffering (machine_setting machine) (seen_by state number) (state.pending number) (state.cores number)
    (owed_outcome (machine_setting machine) (seen_by state number) (state.cores number) (doomed number)) told
