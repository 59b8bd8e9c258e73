-- A delta that is the difference of what the machine shows before and behind a step, and that such a one is right.
use Rattle.std.specs.Prelude.{◌≡◌, ℕ, ◌<◌, ◌&&◌, not, true, false, if◌then◌else◌, List, [], Option, Some, None, length}
use Rattle.std.specs.Prelude.{MatchOption, slice_get, slice_index}
use Rattle.std.specs.FinSet as set
use Rattle.tm_core.specs.Seen.{byte_seen}
use Rattle.tm_core.specs.Theorem.{SameMachine, ShownMachine, StandsFor, TakesStepUnder, machine_setting, pending_at}
use Rattle.tm_core.specs.Theorem.{view_at}
use Rattle.tm_model.specs.Access.{loaded_addresses, stored_addresses, stores_of}
use Rattle.tm_model.specs.Conflicts.{addresses_at_once}
use Rattle.tm_model.specs.declared.outcome.Event.{Event}
use Rattle.tm_model.specs.Explained.{IsReachTold}
use Rattle.tm_model.specs.Runs.{is_aborted_by}
use Rattle.tm_model.specs.State.{Pending, State, seen_by}
use Rattle.tm_model.specs.declared.explain.Reach.{Reach}
use Rattle.tm_why.specs.Said.{IsSaidOf, IsSaidOfDrain}
use Rattle.tm_why.specs.Watched.{is_drain}
use Rattle.tm_page.specs.Applied.{hit_on, is_listed, patched, stored_at}
use Rattle.tm_page.specs.Shows.{IsAddress, IsDelta, private_byte}
use Rattle.tm_page.specs.Types.{Aborted, AbortedBy, Begun, Committed, Condemned, Drained, Idle, Inside, Loaded, Open}
use Rattle.tm_page.specs.Types.{Outcome}
use Rattle.tm_page.specs.Types.{PageDelta, Plain, Stopped, Store}

-- what the machine says before the step of the bytes that it reaches, and of the cores that it hits
abbrev pub IsReachSaid : ShownMachine → ℕ → Reach → Type 0
IsReachSaid machine core told =
    (state : State) (doomed : ℕ → Option ℕ) → StandsFor machine state doomed →
    IsReachTold (machine_setting machine) (seen_by state core) (state.cores core) (doomed core) told

-- all that a core's transaction keeps for itself is at these addresses
abbrev pub AreKept : ShownMachine → ℕ → List ℕ → Type 0
AreKept machine core kept =
    (address : ℕ) → IsAddress (length machine.memory) address → is_listed kept address ≡ false →
    private_byte (view_at machine core) address ≡ None

-- the store of a step that is pending behind it: it stands behind those that were
abbrev pub store_pended : Pending → Pending → Option Store
store_pended before after = slice_get after (length before)

-- Where a step stores: inside and outside at the addresses that it reaches, a commit at all that were kept, and a drain
-- at those of the oldest store that was pending. A step whose store is pending behind it stores nowhere yet.
abbrev pub addresses_told : Outcome → Reach → List ℕ → Option Store → Option Store → List ℕ
addresses_told Inside reach kept pended oldest = loaded_addresses reach.store
addresses_told Plain reach kept pended oldest = addresses_at_once pended (loaded_addresses reach.store)
addresses_told Committed reach kept pended oldest = kept
addresses_told Loaded reach kept pended oldest = []
addresses_told (Stopped stop) reach kept pended oldest = []
addresses_told Idle reach kept pended oldest = []
addresses_told Begun reach kept pended oldest = []
addresses_told (Aborted status) reach kept pended oldest = []
addresses_told (AbortedBy by status) reach kept pended oldest = []
addresses_told Drained reach kept pended oldest = stored_addresses (stores_of oldest)

-- what stands there behind it: inside, what the core sees; else memory's byte
abbrev pub byte_told : Outcome → ShownMachine → ℕ → ℕ → ℕ
byte_told Inside after core address = byte_seen after core address
byte_told Plain after core address = slice_index after.memory address
byte_told Committed after core address = slice_index after.memory address
byte_told Loaded after core address = slice_index after.memory address
byte_told (Stopped stop) after core address = slice_index after.memory address
byte_told Idle after core address = slice_index after.memory address
byte_told Begun after core address = slice_index after.memory address
byte_told (Aborted status) after core address = slice_index after.memory address
byte_told (AbortedBy by status) after core address = slice_index after.memory address
byte_told Drained after core address = slice_index after.memory address

pub record IsDifference (before after : ShownMachine) (number : ℕ) (made : Outcome) (reach : Reach) (kept : List ℕ)
    (delta : PageDelta) : Type 0 where
  pub core : delta.core ≡ number
  pub outcome : delta.outcome ≡ made
  pub state : delta.state ≡ (view_at after number).mode
  pub registers : patched delta.registers (view_at before number).regs ≡ (view_at after number).regs
  pub reads : (line : ℕ) → is_listed delta.reads.items line
      ≡ (set.contains (view_at after number).reads line && not (set.contains (view_at before number).reads line))
  pub writes : (line : ℕ) → is_listed delta.writes.items line
      ≡ (set.contains (view_at after number).writes line && not (set.contains (view_at before number).writes line))
  pub stored : (address : ℕ) → IsAddress (length after.memory) address → stored_at delta.stored.items address
      ≡ (if is_listed (addresses_told made reach kept delta.pending (slice_get (pending_at before number) 0)) address
      then Some (byte_told made after number address)
      else None)
  pub pending : delta.pending ≡ store_pended (pending_at before number) (pending_at after number)
  -- the hits of the step, or those of the drain in its place; an abort from outside in its place hits nobody
  pub hits : (other : ℕ) → other < length before.views → (other ≡ number → ⊥) →
      (is_aborted_by made ≡ false → is_drain made ≡ false → IsSaidOf before number other (hit_on delta other))
  pub drain_hits : (other : ℕ) → other < length before.views → (other ≡ number → ⊥) →
      (is_drain made ≡ true → IsSaidOfDrain before number other (hit_on delta other))
  pub none : (other : ℕ) → is_aborted_by made ≡ true → hit_on delta other ≡ None

-- a step was made, and these are the difference of what is shown before and behind it
pub record IsTold (before after : ShownMachine) (core : ℕ) (outcome : Outcome) (delta : PageDelta) : Type 0 where
  pub within : core < length before.views
  pub same : SameMachine before after
  pub event : Option Event
  pub state : State
  pub doomed : ℕ → Option ℕ
  pub stands : StandsFor before state doomed
  pub takes : TakesStepUnder event before after state doomed core outcome
  pub reach : Reach
  pub said : IsReachSaid before core reach
  pub kept : List ℕ
  pub are_kept : AreKept before core kept
  pub difference : IsDifference before after core outcome reach kept delta

-- so it is right
abbrev pub DifferencesAreDeltas : Type 0
DifferencesAreDeltas =
    (before after : ShownMachine) (core : ℕ) (outcome : Outcome) (delta : PageDelta) →
    IsTold before after core outcome delta → IsDelta before after delta

-- and it names exactly the cores that the step condemns
abbrev pub NamesCondemned : Type 0
NamesCondemned =
    (before after : ShownMachine) (core other : ℕ) (outcome : Outcome) (delta : PageDelta) →
    IsTold before after core outcome delta → other < length before.views → (other ≡ core → ⊥) →
    MatchOption (hit_on delta other)
    ((view_at after other).mode ≡ (view_at before other).mode)
    (λ hit. (depth : ℕ) × ((view_at before other).mode ≡ Open depth) × ((view_at after other).mode ≡ Condemned depth))
