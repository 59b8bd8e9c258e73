-- Laws of stores that are pending.
use Rattle.std.specs.Prelude.{◌≡◌, ℕ, Bool, true, false, not, ◌||◌, List, [], ◌∷◌, ◌++◌, Option, Some, None}
use Rattle.std.specs.Prelude.{length, option_map, nat_eq, nat_lt, if◌then◌else◌}
use Rattle.std.proofs.Common.{◌<◌, refl, ap, sym, ◌∙◌, cond, arith}
use Rattle.std.proofs.lemmas.Bool.{eqb-true, ltb-true, true≢false}
use Rattle.tm_model.specs.Access.{Stores, memory_after, stored_addresses, stores_of}
use Rattle.tm_model.specs.Conflicts.{addresses_at_once, addresses_stored_by, addresses_written_by}
use Rattle.tm_model.specs.Isolated.{Body, instruction_after, isolated_body}
use Rattle.tm_model.specs.Owed.{abort_at, owed_after, owed_inside, owed_outcome, owed_outside, owed_under}
use Rattle.tm_model.specs.Owed.{owed_with_pending, owed_with_room}
use Rattle.tm_model.specs.Runs.{event_told}
use Rattle.tm_model.specs.Setting.{Setting, outside_at}
use Rattle.tm_model.specs.State.{Closed, Core, Halted, Midway, Opened, Pending, seen_memory, with_store}
use Rattle.tm_model.specs.Steps.{Change, Next, after_begin, after_load, after_plain, after_step, after_step_of}
use Rattle.tm_model.specs.Steps.{after_stop, must_wait, needs_room, settled, stop_number, store_buffered, store_of}
use Rattle.tm_model.specs.Steps.{store_outside}
use Rattle.tm_model.specs.Types.{Aborted, AbortedBy, Begins, Begun, Capacity, Committed, Drained, Ends, Event, Fails}
use Rattle.tm_model.specs.Types.{Goes, GoesOn, Idle, Inside, InsideResult, Loaded, Nests, Outcome, OutsideResult, Plain}
use Rattle.tm_model.specs.Types.{Regs, Stop, Stopped, Stops, Store}
use Rattle.tm_model.specs.declared.outcome.Event.TheVariants as event

-- ---- what a core sees

-- a store that reaches memory was seen by its core before
pub drain_is_unseen : (memory : List ℕ) (oldest : Store) (younger : Pending) →
    seen_memory (with_store memory oldest) younger ≡ seen_memory memory (oldest ∷ younger)
drain_is_unseen memory oldest younger = refl

-- one that is pending now is seen by its core over all before it
pub store_is_seen : (memory : List ℕ) (pending : Pending) (store : Store) →
    seen_memory memory (pending ++ store ∷ []) ≡ with_store (seen_memory memory pending) store
store_is_seen memory [] store = refl
store_is_seen memory (oldest ∷ younger) store = store_is_seen (with_store memory oldest) younger store

-- what the core sees after a step, and the core
abbrev pub sees : Next → List ℕ × Core
sees next = (seen_memory next.0 next.1.0, next.1.1)

-- where the step stores this, and that is what it changes
abbrev pub Settles : List ℕ → Pending → Option Store → Change → Type 0
Settles memory pending store change = option_map sees (option_map (settled memory pending store) change) ≡ change

-- ---- a step is one of the memory that the core sees

abbrev lacks_room : ℕ → Pending → Option Store → Bool
lacks_room most pending None = false
lacks_room most pending (Some store) = not (nat_lt (length pending) most)

abbrev waits_behind : Pending → Bool → Bool
waits_behind [] t = false
waits_behind (oldest ∷ younger) t = t

from_not : (t : Bool) → not t ≡ false → t ≡ true
from_not true is = refl
from_not false is = sym is

some_room : (most count : ℕ) → not (nat_lt count most) ≡ false → nat_eq most 0 ≡ true → ⊥
some_room most count room is =
    let below : count < most = ltb-true count most (from_not (nat_lt count most) room) in
    let none : most ≡ 0 = eqb-true most 0 is in
    omega arith

with_none : (memory : List ℕ) (off waits : Bool) (store : Option Store) (next : Regs) →
    Settles memory [] (if off then None else if waits then None else store)
    (Some (memory_after memory (stores_of store), Closed next))
with_none memory true waits store next = refl
with_none memory false true store next = refl
with_none memory false false None next = refl
with_none memory false false (Some store) next = refl

none_made : (memory : List ℕ) (oldest : Store) (younger : Pending) (off : Bool) (next : Regs) →
    Settles memory (oldest ∷ younger) (if off then None else None)
    (Some (seen_memory memory (oldest ∷ younger), Closed next))
none_made memory oldest younger true next = refl
none_made memory oldest younger false next = refl

one_made : (memory : List ℕ) (oldest : Store) (younger : Pending) (off : Bool) (store : Store) (next : Regs) →
    (off ≡ true → ⊥) →
    Settles memory (oldest ∷ younger) (if off then None else Some store)
    (Some (with_store (seen_memory memory (oldest ∷ younger)) store, Closed next))
one_made memory oldest younger true store next on = elim (on refl) [ ]
one_made memory oldest younger false store next on =
    λ i. Some (store_is_seen memory (oldest ∷ younger) store i, Closed next)

plain : (memory : List ℕ) (pending : Pending) (most : ℕ) (waits : Bool) (result : OutsideResult) →
    waits_behind pending (waits || lacks_room most pending (if waits then None else store_of result)) ≡ false →
    Settles memory pending (if nat_eq most 0 then None else if waits then None else store_of result)
    (after_plain (seen_memory memory pending) result)
plain memory pending most waits (Begins regs) goes = refl
plain memory pending most waits (Stops stop) goes = refl
plain memory [] most waits (Goes next store) goes = with_none memory (nat_eq most 0) waits store next
plain memory (oldest ∷ younger) most true (Goes next store) goes = elim (true≢false goes) [ ]
plain memory (oldest ∷ younger) most false (Goes next None) goes =
    none_made memory oldest younger (nat_eq most 0) next
plain memory (oldest ∷ younger) most false (Goes next (Some store)) goes =
    one_made memory oldest younger (nat_eq most 0) store next (some_room most (length (oldest ∷ younger)) goes)

-- the change leaves memory
abbrev Keeps : List ℕ → Change → Type 0
Keeps memory None = Unit {0}
Keeps memory (Some change) = change.0 ≡ memory

kept : (memory : List ℕ) (pending : Pending) (off : Bool) (change : Change)
    → Keeps (seen_memory memory pending) change →
    Settles memory pending (if off then None else None) change
kept memory pending off None keeps = refl
kept memory [] true (Some change) keeps = refl
kept memory [] false (Some change) keeps = refl
kept memory (oldest ∷ younger) true (Some change) keeps = λ i. Some (sym keeps i, change.1)
kept memory (oldest ∷ younger) false (Some change) keeps = λ i. Some (sym keeps i, change.1)

when : (t : Bool) (memory : List ℕ) (change : Change) → Keeps memory change → Keeps memory (if t then change else None)
when true memory change keeps = keeps
when false memory change keeps = tt

load_keeps : (memory : List ℕ) (regs : Regs) (value : ℕ) (result : OutsideResult) →
    Keeps memory (after_load memory regs value result)
load_keeps memory regs value (Goes next store) = refl
load_keeps memory regs value (Begins next) = tt
load_keeps memory regs value (Stops stop) = tt

stop_keeps : (memory : List ℕ) (regs : Regs) (stop : Stop) (result : OutsideResult) →
    Keeps memory (after_stop memory regs stop result)
stop_keeps memory regs stop (Stops reason) = when (nat_eq (stop_number stop) (stop_number reason)) memory _ refl
stop_keeps memory regs stop (Goes next store) = tt
stop_keeps memory regs stop (Begins next) = tt

begin_keeps : (memory : List ℕ) (regs : Regs) (result : OutsideResult) → Keeps memory (after_begin memory regs result)
begin_keeps memory regs (Begins next) = refl
begin_keeps memory regs (Goes next store) = tt
begin_keeps memory regs (Stops stop) = tt

when_plain : (t : Bool) (memory : List ℕ) (pending : Pending) (store : Option Store) (change : Change) →
    Settles memory pending store change → Settles memory pending store (if t then None else change)
when_plain true memory pending store change settles = refl
when_plain false memory pending store change settles = settles

at_commit : (memory : List ℕ) (off : Bool) (change : Change) → Settles memory [] (if off then None else None) change
at_commit memory true None = refl
at_commit memory true (Some change) = refl
at_commit memory false None = refl
at_commit memory false (Some change) = refl

-- A step that does not wait changes what the core sees, and the core, as the step on one memory does; memory and what
-- is pending are two parts of that.
pub steps_as_seen : (setting : Setting) (memory : List ℕ) (pending : Pending) (core : Core) (outcome : Outcome) →
    must_wait setting (seen_memory memory pending) pending core outcome ≡ false →
    Settles memory pending (store_buffered setting (seen_memory memory pending) core outcome)
    (after_step_of setting (seen_memory memory pending) core outcome)
steps_as_seen setting memory [] (Closed regs) Plain goes =
    when_plain (setting.takes_two_steps regs) memory [] _ _
    (plain memory [] setting.store_buffer (setting.waits regs) (outside_at setting regs memory) refl)
steps_as_seen setting memory (oldest ∷ younger) (Closed regs) Plain goes =
    when_plain (setting.takes_two_steps regs) memory (oldest ∷ younger) _ _
    (plain memory (oldest ∷ younger) setting.store_buffer (setting.waits regs)
    (outside_at setting regs (seen_memory memory (oldest ∷ younger))) goes)
steps_as_seen setting memory [] (Midway regs value) Plain goes =
    plain memory [] setting.store_buffer false (setting.outside regs value) refl
steps_as_seen setting memory (oldest ∷ younger) (Midway regs value) Plain goes =
    plain memory (oldest ∷ younger) setting.store_buffer false (setting.outside regs value) goes
steps_as_seen setting memory [] (Opened regs steps) Committed goes =
    at_commit memory (nat_eq setting.store_buffer 0) _
steps_as_seen setting memory (oldest ∷ younger) (Opened regs steps) Committed goes = elim (true≢false goes) [ ]
steps_as_seen setting memory pending (Closed regs) Loaded goes =
    kept memory pending (nat_eq setting.store_buffer 0) _
    (when (setting.takes_two_steps regs) (seen_memory memory pending) _
    (load_keeps (seen_memory memory pending) regs _ (outside_at setting regs (seen_memory memory pending))))
steps_as_seen setting memory pending (Closed regs) (Stopped stop) goes =
    kept memory pending (nat_eq setting.store_buffer 0) _
    (stop_keeps (seen_memory memory pending) regs stop (outside_at setting regs (seen_memory memory pending)))
steps_as_seen setting memory pending (Closed regs) Begun goes =
    kept memory pending (nat_eq setting.store_buffer 0) _
    (begin_keeps (seen_memory memory pending) regs (outside_at setting regs (seen_memory memory pending)))
steps_as_seen setting memory pending (Halted regs stop) Idle goes =
    kept memory pending (nat_eq setting.store_buffer 0) _ refl
steps_as_seen setting memory pending (Opened regs steps) Inside goes =
    kept memory pending (nat_eq setting.store_buffer 0) _ refl
steps_as_seen setting memory pending (Opened regs steps) (Aborted status) goes =
    kept memory pending (nat_eq setting.store_buffer 0) _ refl
steps_as_seen setting memory pending (Opened regs steps) (AbortedBy by status) goes =
    kept memory pending (nat_eq setting.store_buffer 0) _ refl
steps_as_seen setting memory pending core outcome goes = refl

-- ---- where none may be pending

-- a core stops with none
pub stops_with_none : (setting : Setting) (memory : List ℕ) (oldest : Store) (younger : Pending)
    (regs : Regs) (stop : Stop)
    → after_step setting memory (oldest ∷ younger) (Closed regs) (Stopped stop) ≡ None
stops_with_none setting memory oldest younger regs stop = refl

-- a transaction commits with none
pub commits_with_none : (setting : Setting) (memory : List ℕ) (oldest : Store) (younger : Pending) (regs : Regs)
    (steps : ℕ) → after_step setting memory (oldest ∷ younger) (Opened regs steps) Committed ≡ None
commits_with_none setting memory oldest younger regs steps = refl

-- so does an instruction that waits
pub waits_with_none : (setting : Setting) (memory : List ℕ) (oldest : Store) (younger : Pending) (regs : Regs) →
    setting.waits regs ≡ true → after_step setting memory (oldest ∷ younger) (Closed regs) Plain ≡ None
waits_with_none setting memory oldest younger regs waits =
    let seen : List ℕ = seen_memory memory (oldest ∷ younger) in
    ap (λ t. if t || needs_room setting (oldest ∷ younger) (store_outside setting seen (Closed regs) Plain)
    then None
    else option_map (settled memory (oldest ∷ younger) (store_buffered setting seen (Closed regs) Plain))
    (after_step_of setting seen (Closed regs) Plain)) waits

-- ---- who is hit

-- a drain hits whom the store would hit without a buffer
pub drain_writes : (setting : Setting) (memory : List ℕ) (oldest : Store) (younger : Pending) (core : Core) →
    addresses_written_by setting memory (oldest ∷ younger) core Drained ≡ stored_addresses (stores_of (Some oldest))
drain_writes setting memory oldest younger core = refl

-- a store that is pending now writes nothing yet
pub pending_writes_none : (setting : Setting) (memory : List ℕ) (pending : Pending) (core : Core) (store : Store) →
    store_buffered setting (seen_memory memory pending) core Plain ≡ Some store →
    addresses_written_by setting memory pending core Plain ≡ []
pending_writes_none setting memory pending core store made =
    ap (λ made. addresses_at_once made (addresses_stored_by setting (seen_memory memory pending) core Plain)) made
