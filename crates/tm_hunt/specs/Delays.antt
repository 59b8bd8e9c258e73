-- Which loads of a run a store is late past: it was still pending when its core loaded from memory. Where that is what
-- fails, a fence belongs between the two (SDM volume 3, 9.2.3.4).
use Rattle.std.specs.Prelude.{◌≡◌, ◌⊎◌, ℕ, ◌+◌, ◌<◌, ◌≤◌, ◌==◌, ◌&&◌, Bool, true, false, if◌then◌else◌, List, [], ◌∷◌}
use Rattle.std.specs.Prelude.{All, Contains, IfSome, Option, Some, None, length, slice_get, take}
use Rattle.ia_word.specs.Width.{bytes_of}
use Rattle.tm_core.specs.Theorem.{IsRun, ShownMachine as Machine, StandsFor, machine_setting, pending_at, view_at}
use Rattle.tm_model.specs.Conflicts.{Doomed, addresses_loaded_by}
use Rattle.tm_model.specs.Explained.{owed_now}
use Rattle.tm_model.specs.Owed.{owed_outcome}
use Rattle.tm_model.specs.State.{Pending, State, opening_state, seen_by}
use Rattle.tm_model.specs.Types.{Store}
use Rattle.tm_model.specs.declared.outcome.Event.{Event}
use Rattle.tm_model.specs.declared.outcome.Event.TheVariants as event
use Rattle.tm_model.specs.declared.outcome.Outcome.{Outcome}
use Rattle.tm_model.specs.declared.outcome.Pick.{Pick}
use Rattle.tm_hunt.specs.Cycle.{CameBy, IsMachineOf}
use Rattle.tm_hunt.specs.declared.delays.Course.{Course}
use Rattle.tm_hunt.specs.declared.delays.Delayed.{Delayed}
use Rattle.tm_hunt.specs.declared.delays.Glance.{Glance}
use Rattle.tm_hunt.specs.declared.delays.Place.{Place}
use Rattle.tm_hunt.specs.declared.delays.Stored.{Stored}
use Rattle.tm_hunt.specs.declared.trial.Trial.{Trial}

-- ---- what a step does

-- a step of a core from one machine to another leaves its store pending, the youngest: so many are older
pub record LeavesStore (before after : Machine) (core older : ℕ) : Type 0 where
  pub was : length (pending_at before core) ≡ older
  pub one_more : length (pending_at after core) ≡ older + 1

-- a store does not write the byte at this address
abbrev pub IsBeside : ℕ → Store → Type 0
IsBeside address store = (address < store.addr) ⊎ (store.addr + bytes_of store.width ≤ address)

-- one of these bytes is written by none of these stores
pub record HasByteBeside (addresses : List ℕ) (pending : Pending) : Type 0 where
  pub address : ℕ
  pub among : Contains addresses address
  pub beside : All (IsBeside address) pending

-- A core's next step under no event loads a byte from memory: no store of the core writes it that is pending. A step
-- that waits for its stores loads nothing.
abbrev pub LoadsMemory : Machine → ℕ → Type 0
LoadsMemory machine core =
    (state : State) (doomed : Doomed) → StandsFor machine state doomed →
    HasByteBeside
    (addresses_loaded_by (machine_setting machine) (seen_by state core) (state.cores core)
    (owed_now None (machine_setting machine) state doomed core))
    (pending_at machine core)

-- ---- a store that is late

abbrev pub is_drain : Option Event → Bool
is_drain None = false
is_drain (Some event.Drain) = true
is_drain (Some (event.Abort by)) = false

-- how many of these steps are drains of a core, each of its oldest store
abbrev pub drains_of : ℕ → List Pick → ℕ
drains_of core [] = 0
drains_of core (pick ∷ picks) =
    (if pick.core == core && is_drain pick.event then 1 else 0) + drains_of core picks

-- a step of a schedule: it is of this core, under no event, from one machine to another, and its instruction stands at
-- this address
pub record IsStepOf (trial : Trial) (picks : List Pick) (index core eip : ℕ) (before after : Machine) : Type 0 where
  pub pick : slice_get picks index ≡ Some (record { core = core; event = None })
  pub came : CameBy trial before (take index picks)
  pub goes : CameBy trial after (take (index + 1) picks)
  pub address : (view_at before core).regs.eip ≡ eip

-- a step of a schedule that leaves its store pending, behind so many older ones of its core
pub record IsStoreOf (trial : Trial) (picks : List Pick) (index core eip older : ℕ) : Type 0 where
  pub before : Machine
  pub after : Machine
  pub is_step : IsStepOf trial picks index core eip before after
  pub leaves : LeavesStore before after core older

-- a step of a schedule that loads a byte from memory
pub record IsLoadOf (trial : Trial) (picks : List Pick) (index core eip : ℕ) : Type 0 where
  pub before : Machine
  pub after : Machine
  pub is_step : IsStepOf trial picks index core eip before after
  pub loads : LoadsMemory before core

-- A store of a schedule is late past a load of its core: the load comes behind it, and by then no more stores of the
-- core have drained, the oldest first, than were older, so that it is still pending.
pub record IsDelayed (trial : Trial) (picks : List Pick) (delayed : Delayed) : Type 0 where
  pub older : ℕ
  pub stores : IsStoreOf trial picks delayed.stored delayed.core delayed.store_eip older
  pub loads : IsLoadOf trial picks delayed.loaded delayed.core delayed.load_eip
  pub later : delayed.stored < delayed.loaded
  pub pending : drains_of delayed.core (take delayed.loaded picks)
      ≤ drains_of delayed.core (take delayed.stored picks) + older

-- those that are told: no more than four
pub record AreTold (trial : Trial) (picks : List Pick) (found : List Delayed) : Type 0 where
  pub delayed : All (IsDelayed trial picks) found
  pub few : length found ≤ 4

-- ---- what is kept of a step

-- a core's next step under no event does not wait for its stores
abbrev pub GoesUnheld : Machine → ℕ → Type 0
GoesUnheld machine core =
    (state : State) (doomed : Doomed) → StandsFor machine state doomed →
    owed_now None (machine_setting machine) state doomed core
    ≡ owed_outcome (machine_setting machine) (seen_by state core) (state.cores core) (doomed core)

-- the step of a pick from one machine to another
pub record IsGlance (before after : Machine) (pick : Pick) (seen : Glance) : Type 0 where
  pub address : (view_at before pick.core).regs.eip ≡ seen.eip
  pub stores : IfSome seen.older (λ older. (pick.event ≡ None) × LeavesStore before after pick.core older)
  pub loads : seen.loads ≡ true → (pick.event ≡ None) × LoadsMemory before pick.core

-- of the core's stores, so many have drained before this step
abbrev pub IsDrainedTo : Course → Place → Type 0
IsDrainedTo course place = place.drained ≡ drains_of course.core (take place.step course.picks.now)

-- the step at a place was made
pub record IsMadeAt (course : Course) (pick : Pick) (seen : Glance) (place : Place) : Type 0 where
  pub before : Machine
  pub after : Machine
  pub is_pick : slice_get course.picks.now place.step ≡ Some pick
  pub came : CameBy course.trial before (take place.step course.picks.now)
  pub goes : CameBy course.trial after (take (place.step + 1) course.picks.now)
  pub is_glance : IsGlance before after pick seen
  pub address : seen.eip ≡ place.eip
  pub drained : IsDrainedTo course place

pub record IsStored (course : Course) (stored : Stored) : Type 0 where
  pub stores : IsStoreOf course.trial course.picks.now stored.place.step course.core stored.place.eip stored.older
  pub drained : IsDrainedTo course stored.place

pub record IsLoading (course : Course) (load : Place) : Type 0 where
  pub loads : IsLoadOf course.trial course.picks.now load.step course.core load.eip
  pub drained : IsDrainedTo course load

-- ---- whether a program's stores are ever pending

-- the trial with room for so many stores
abbrev pub with_stores : ℕ → Trial → Trial
with_stores stores trial = record trial { limits = record trial.limits { stores = stores } }

-- a machine that was opened with the program shows this behind some steps
pub record IsReached (trial : Trial) (machine : Machine) : Type 0 where
  pub start : Machine
  pub of_trial : IsMachineOf trial start
  pub history : List (ℕ × Outcome)
  pub is_run : IsRun start machine (opening_state trial.program.now) (λ _. None) history

-- with room for one store of a core, some is pending somewhere in a run of the program
pub record LeavesSome (trial : Trial) : Type 0 where
  pub machine : Machine
  pub reached : IsReached (with_stores 1 trial) machine
  pub core : ℕ
  pub some : 0 < length (pending_at machine core)
