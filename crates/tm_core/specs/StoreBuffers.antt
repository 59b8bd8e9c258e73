-- A step of a machine's parts where stores of its core are pending: what is foreseen of it, and what it leaves. It is
-- no part of what is promised: the proofs show that it is the owed step.
use Rattle.std.specs.Prelude.{◌≡◌, ℕ, ◌+◌, ◌^◌, ◌<◌, ◌≤◌, false, List, ◌∷◌, IfSome, None, Option, Some, length}
use Rattle.ia_word.specs.Width.{bits_of, bytes_of}
use Rattle.tm_sets.specs.Content.{Content}
use Rattle.tm_model.specs.Access.{loaded_addresses, stored_addresses, stores_of}
use Rattle.tm_model.specs.Conflicts.{addresses_loaded_by}
use Rattle.tm_model.specs.Setting.{Setting}
use Rattle.tm_model.specs.Shown.{View, view_outside}
use Rattle.tm_model.specs.State.{Core, Pending, seen_memory, with_store}
use Rattle.tm_model.specs.Steps.{must_wait, store_outside}
use Rattle.tm_core.specs.declared.ahead.Ahead.{Ahead}
use Rattle.tm_core.specs.declared.ahead.Ahead.TheVariants as ahead
use Rattle.tm_core.specs.declared.ahead.Pends.{Pends}
use Rattle.tm_core.specs.declared.buffering.Buffering.{Buffering}
use Rattle.tm_core.specs.declared.cpu.Cpu.{Cpu}
use Rattle.tm_core.specs.Buffering.{IsAwaited, IsBuffering}
use Rattle.tm_core.specs.PendingStep.{PendingResult, core_like, stepped_pending, views_then}
use Rattle.tm_core.specs.Representation.{IsHeld, cpu_views, kept_at, setting_with}
use Rattle.tm_core.specs.StepRefinement.{StepResult, addresses_touched, stepped}
use Rattle.tm_core.specs.Stepping.{HitsOthers}
use Rattle.tm_core.specs.Types.{CoreState, Event, Outcome, Plain, Running, Store, Write}

-- a store that a memory of this size has room for
abbrev pub IsStorable : ℕ → Store → Type 0
IsStorable size store = (store.addr + bytes_of store.width ≤ size) × (store.value < 2 ^ bits_of store.width)

-- ---- what is foreseen

-- a step that comes to this on memory as the core sees it stores so, does not wait, and its store is pending then
pub record WillPend (setting : Setting) (seen : List ℕ) (pending : Pending) (core : Core) (result : StepResult)
    (pends : Pends) : Type 0 where
  pub goes : must_wait setting seen pending core result.outcome ≡ false
  pub outcome : result.outcome ≡ Plain
  pub store : store_outside setting seen core result.outcome ≡ Some pends.store
  pub view : result.view ≡ view_outside Running pends.regs
  pub loads : addresses_loaded_by setting seen core result.outcome ≡ loaded_addresses pends.access
  pub within : IfSome pends.access (λ load. load.addr + bytes_of load.width ≤ length seen)
  pub storable : IsStorable (length seen) pends.store
  pub room : length pending < setting.store_buffer

abbrev pub IsForeseen : Setting → List ℕ → Pending → Core → StepResult → Ahead → Type 0
IsForeseen setting seen pending core result (ahead.Waits wait) = IsAwaited setting seen pending core result.outcome wait
IsForeseen setting seen pending core result (ahead.Stores pends) = WillPend setting seen pending core result pends
IsForeseen setting seen pending core result ahead.Goes =
    (must_wait setting seen pending core result.outcome ≡ false)
    × (store_outside setting seen core result.outcome ≡ None)

-- of the next step of a core that shows this view
abbrev pub IsAhead : Setting → List ℕ → Pending → View → CoreState → Ahead → Type 0
IsAhead setting seen pending view mode ahead =
    IsForeseen setting seen pending (core_like view mode) (stepped setting seen view mode) ahead

-- the same by what is told of it, of a core of which these stores are pending
abbrev pub ShowsAhead : Setting → List ℕ → Pending → View → Buffering → Type 0
ShowsAhead setting memory pending view told =
    let seen : List ℕ = seen_memory memory pending in
    IsBuffering setting seen pending (core_like view view.mode) (stepped setting seen view view.mode).outcome told

-- ---- what a step leaves

-- of memory, of what is pending of the core that stepped, and of the views of all cores
pub record Leaves (result : PendingResult) (memory_now : List ℕ) (pending_now : Pending) (views views_now : ℕ → View)
    (count number : ℕ) (outcome : Outcome) : Type 0 where
  pub outcome_is : outcome ≡ result.outcome
  pub new_memory : memory_now ≡ result.memory
  pub left : pending_now ≡ result.pending
  pub each : (other : ℕ) → other < count → views_now other ≡ views_then views number result other

-- a step of the core of this number, of which these stores are pending, at most so many, under an event or under none,
-- gives this outcome, and leaves the parts so
pub record StepsPending (event : Option Event) (code : List ℕ) (base most : ℕ) (memory memory_now : List ℕ)
    (content content_now : Content) (cpus cpus_now : List Cpu) (pending pending_now : Pending) (number : ℕ)
    (outcome : Outcome) : Type 0 where
  pub step : Leaves (stepped_pending event (setting_with code base (length memory) content most) memory pending
      (cpu_views content cpus number)) memory_now pending_now (cpu_views content cpus) (cpu_views content_now cpus_now)
      (length cpus) number outcome
  pub held : (other : ℕ) → other < length cpus → IsHeld (content.fixed.room Write) (kept_at content_now cpus_now other)
  pub fixed : content_now.fixed ≡ content.fixed

-- the oldest store of a core has reached memory, and hits the others
pub record Drains (memory memory_now : List ℕ) (content content_now : Content) (cpus cpus_now : List Cpu)
    (pending pending_now : Pending) (number : ℕ) : Type 0 where
  pub oldest : Store
  pub was : pending ≡ oldest ∷ pending_now
  pub new_memory : memory_now ≡ with_store memory oldest
  pub hits : HitsOthers (addresses_touched Write (stored_addresses (stores_of (Some oldest)))) number content
      content_now cpus cpus_now
