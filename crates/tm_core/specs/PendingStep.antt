-- A step of a core with stores pending, by what a machine shows: the step on one memory (StepRefinement), made on
-- memory as the core sees it, whose store is put where it belongs; or the oldest store reaches memory, which an event
-- makes or a step that waits. It is no part of what is promised: the proofs show that it is the owed step.
use Rattle.std.specs.Prelude.{◌≡◌, ℕ, ◌<◌, List, [], ◌∷◌, Option, Some, None, nat_eq, if◌then◌else◌}
use Rattle.tm_model.specs.declared.outcome.Event.TheVariants as event
use Rattle.tm_model.specs.Access.{stored_addresses, stores_of}
use Rattle.tm_model.specs.Conflicts.{addresses_loaded_by}
use Rattle.tm_model.specs.Setting.{Setting}
use Rattle.tm_model.specs.Shown.{View}
use Rattle.tm_model.specs.State.{Closed, Core, Halted, Midway, Opened, Pending, seen_memory, with_store}
use Rattle.tm_model.specs.Steps.{Next, must_wait, settled, store_buffered}
use Rattle.tm_core.specs.StepRefinement.{StepResult, Touched, addresses_touched, stepped_under, view_after_hit}
use Rattle.tm_core.specs.Types.{AtStop, Condemned, CoreState, Drained, Event, Mid, Open, Outcome, Read, Running, Store}
use Rattle.tm_core.specs.Types.{Write}

-- a core that waits and stores as the one that is shown
abbrev pub core_like : View → CoreState → Core
core_like view Running = Closed view.base
core_like view Mid = Midway view.base view.kept
core_like view (Open depth) = Opened view.base 0
core_like view (Condemned depth) = Opened view.base 0
core_like view (AtStop stop) = Halted view.base stop

pub record PendingResult : Type 0 where
  pub outcome : Outcome
  pub memory : List ℕ
  pub pending : Pending  -- of the core that stepped
  pub view : View  -- the same
  pub touched : Touched  -- that others see

-- ---- a drain

abbrev pub drain_result : List ℕ → Store → Pending → View → PendingResult
drain_result memory oldest younger view = record {
  outcome = Drained;
  memory = with_store memory oldest;
  pending = younger;
  view = view;
  touched = addresses_touched Write (stored_addresses (stores_of (Some oldest)));
}

-- a step that waits; with none pending none does
abbrev pub drains : List ℕ → Pending → View → PendingResult
drains memory [] view = record { outcome = Drained; memory = memory; pending = []; view = view; touched = [] }
drains memory (oldest ∷ younger) view = drain_result memory oldest younger view

-- ---- a step that does not wait

-- a store that is pending now touches nothing yet
abbrev pub touched_now : Option Store → List ℕ → Touched → Touched
touched_now None loads touched = touched
touched_now (Some store) loads touched = addresses_touched Read loads

abbrev pub settles : Setting → List ℕ → Pending → View → StepResult → PendingResult
settles setting memory pending view result =
    let seen : List ℕ = seen_memory memory pending in
    let core : Core = core_like view view.mode in
    let store : Option Store = store_buffered setting seen core result.outcome in
    let next : Next = settled memory pending store (result.memory, core) in
    record {
      outcome = result.outcome;
      memory = next.0;
      pending = next.1.0;
      view = result.view;
      touched = touched_now store (addresses_loaded_by setting seen core result.outcome) result.touched;
    }

-- ---- a step

-- what it comes to on memory as the core sees it is this
abbrev pub goes_or_waits : Setting → List ℕ → Pending → View → StepResult → PendingResult
goes_or_waits setting memory pending view result =
    if must_wait setting (seen_memory memory pending) pending (core_like view view.mode) result.outcome
    then drains memory pending view
    else settles setting memory pending view result

-- under an event, or under none
abbrev pub stepped_pending : Option Event → Setting → List ℕ → Pending → View → PendingResult
stepped_pending (Some event.Drain) setting memory (oldest ∷ younger) view = drain_result memory oldest younger view
stepped_pending event setting memory pending view =
    goes_or_waits setting memory pending view
    (stepped_under event setting (seen_memory memory pending) view view.mode)

-- the views of all cores, and what is pending of them, after a step of the core of this number
abbrev pub views_then : (ℕ → View) → ℕ → PendingResult → ℕ → View
views_then views number result other =
    if nat_eq other number then result.view else view_after_hit result.touched (views other)

abbrev pub pending_then : (ℕ → Pending) → ℕ → PendingResult → ℕ → Pending
pending_then pending number result other = if nat_eq other number then result.pending else pending other

-- a step of the core of this number gives this outcome, memory, views and pending stores
pub record IsPendingStep (event : Option Event) (setting : Setting) (memory : List ℕ) (views : ℕ → View)
    (pending : ℕ → Pending) (count number : ℕ) (outcome : Outcome) (memory_now : List ℕ) (views_now : ℕ → View)
    (pending_now : ℕ → Pending) : Type 0 where
  pub outcome_is : outcome ≡ (stepped_pending event setting memory (pending number) (views number)).outcome
  pub new_memory : memory_now ≡ (stepped_pending event setting memory (pending number) (views number)).memory
  pub each : (other : ℕ) → other < count → views_now other
      ≡ views_then views number (stepped_pending event setting memory (pending number) (views number)) other
  pub left : (other : ℕ) → other < count → pending_now other
      ≡ pending_then pending number (stepped_pending event setting memory (pending number) (views number)) other
