-- Laws of steps under an event, each the size of a computation or of a case split.
use Rattle.std.specs.Prelude.{◌≡◌, ℕ, Bool, true, false, List, [], ◌∷◌, Option, Some, None, nat_eq, if◌then◌else◌}
use Rattle.std.proofs.Common.{refl, ap, sym, ◌∙◌, cond, subst}
use Rattle.std.proofs.lemmas.List.Elements.{All-cons, All-nil}
use Rattle.tm_model.specs.declared.outcome.Event.TheVariants as event
use Rattle.tm_model.specs.Access.{Stores, stores_of}
use Rattle.tm_model.specs.Conflicts.{Doomed, addresses_at_once, addresses_loaded_by, addresses_stored_by}
use Rattle.tm_model.specs.Conflicts.{addresses_written_by, doom_after_other, doomed_after}
use Rattle.tm_model.specs.Isolated.{Body, instruction_after, isolated_body}
use Rattle.tm_model.specs.Owed.{abort_at, owed_after, owed_inside, owed_outcome}
use Rattle.tm_model.specs.Owed.{owed_outside, owed_under, owed_with_pending, owed_with_room}
use Rattle.tm_model.specs.Runs.{IsOwed, IsOwedUnder, TellNoAbort, event_told, is_aborted_by}
use Rattle.tm_model.specs.Setting.{Setting, outside_at}
use Rattle.tm_model.specs.State.{Closed, Core, Halted, Midway, Opened, Pending, State, seen_by, seen_memory}
use Rattle.tm_model.specs.Steps.{after_step, after_step_of, must_wait, registers_after_abort, store_buffered}
use Rattle.tm_model.specs.Steps.{store_outside}
use Rattle.tm_model.specs.Types.{Aborted, AbortedBy, Begins, Begun, Capacity, Committed, Conflict, Drained, Ends, Event}
use Rattle.tm_model.specs.Types.{Fails, Goes, GoesOn, Idle, Inside, InsideResult, Interference, Loaded, Nests, Outcome}
use Rattle.tm_model.specs.Types.{OutsideResult, Plain, Regs, Stopped, Stops, Store}
use Rattle.tm_model.proofs.Sanity.{none_hit}

-- ---- what an abort from outside of the program does

-- of what a program sees, EAX and EIP alone
pub changes_eax_and_eip : (setting : Setting) (memory : List ℕ) (regs : Regs) (steps : ℕ) (by : Interference)
    (status : ℕ) → after_step_of setting memory (Opened regs steps) (AbortedBy by status)
    ≡ Some (memory, Closed (registers_after_abort setting regs status))
changes_eax_and_eip setting memory regs steps by status = refl

-- a doomed transaction aborts by its conflict
pub doomed_aborts_by_conflict : (by : Interference) (setting : Setting) (memory : List ℕ) (pending : Pending)
    (regs : Regs) (steps depth : ℕ) →
    owed_under (Some (event.Abort by)) setting memory pending (Opened regs steps) (Some depth) ≡ abort_at Conflict depth
doomed_aborts_by_conflict by setting memory [] regs steps depth = refl
doomed_aborts_by_conflict by setting memory (oldest ∷ younger) regs steps depth = refl

-- outside of transactions the step is what it is without an event
pub same_outside : (by : Interference) (setting : Setting) (memory : List ℕ) (pending : Pending) (regs : Regs) →
    owed_under (Some (event.Abort by)) setting memory pending (Closed regs) None
    ≡ owed_with_pending setting memory pending (Closed regs) None
same_outside by setting memory pending regs = refl

pub same_midway : (by : Interference) (setting : Setting) (memory : List ℕ) (pending : Pending) (regs : Regs)
    (value : ℕ) → owed_under (Some (event.Abort by)) setting memory pending (Midway regs value) None
    ≡ owed_with_pending setting memory pending (Midway regs value) None
same_midway by setting memory pending regs value = refl

-- it hits nobody
abort_loads : (setting : Setting) (memory : List ℕ) (core : Core) (by : Interference) (status : ℕ) →
    addresses_loaded_by setting memory core (AbortedBy by status) ≡ []
abort_loads setting memory (Closed regs) by status = refl
abort_loads setting memory (Midway regs value) by status = refl
abort_loads setting memory (Halted regs stop) by status = refl
abort_loads setting memory (Opened regs steps) by status = refl

abort_stores : (setting : Setting) (memory : List ℕ) (core : Core) (by : Interference) (status : ℕ) →
    addresses_stored_by setting memory core (AbortedBy by status) ≡ []
abort_stores setting memory (Closed regs) by status = refl
abort_stores setting memory (Midway regs value) by status = refl
abort_stores setting memory (Halted regs stop) by status = refl
abort_stores setting memory (Opened regs steps) by status = refl

none_made : (setting : Setting) (memory : List ℕ) (core : Core) (by : Interference) (status : ℕ) →
    store_buffered setting memory core (AbortedBy by status) ≡ None
none_made setting memory core by status = whichever (nat_eq setting.store_buffer 0) _ (none_outside core)
  where
    whichever : (t : Bool) (store : Option Store) → store ≡ None → (if t then None else store) ≡ None
    whichever true store none = refl
    whichever false store none = none

    none_outside : (core : Core) → store_outside setting memory core (AbortedBy by status) ≡ None
    none_outside (Closed regs) = refl
    none_outside (Midway regs value) = refl
    none_outside (Halted regs stop) = refl
    none_outside (Opened regs steps) = refl

abort_writes : (setting : Setting) (memory : List ℕ) (pending : Pending) (core : Core) (by : Interference)
    (status : ℕ) → addresses_written_by setting memory pending core (AbortedBy by status) ≡ []
abort_writes setting memory pending core by status =
    let seen : List ℕ = seen_memory memory pending in
    ap (λ store. addresses_at_once store (addresses_stored_by setting seen core (AbortedBy by status)))
    (none_made setting seen core by status)
    ∙ abort_stores setting seen core by status

pub abort_hits_nobody : (setting : Setting) (state : State) (doomed : Doomed) (number : ℕ) (by : Interference)
    (status other : ℕ) → nat_eq other number ≡ false →
    doomed_after setting state doomed number (AbortedBy by status) other ≡ doomed other
abort_hits_nobody setting state doomed number by status other apart =
    let core : Core = state.cores number in
    let seen : List ℕ = seen_by state other in
    let loads : List ℕ = addresses_loaded_by setting (seen_by state number) core (AbortedBy by status) in
    let stores : List ℕ =
    addresses_written_by setting state.memory (state.pending number) core (AbortedBy by status) in
    ap (λ t. cond t None (doom_after_other setting seen loads stores (state.cores other) (doomed other))) apart
    ∙ ap (λ places. doom_after_other setting seen places stores (state.cores other) (doomed other))
    (abort_loads setting (seen_by state number) core by status)
    ∙ ap (λ places. doom_after_other setting seen [] places (state.cores other) (doomed other))
    (abort_writes setting state.memory (state.pending number) core by status)
    ∙ none_hit setting seen (state.cores other) (doomed other)

-- ---- what outcomes tell of events

either : (t : Bool) (one other : Outcome) → event_told one ≡ None → event_told other ≡ None →
    event_told (cond t one other) ≡ None
either true one other first second = first
either false one other first second = second

outside_tells : (two : Bool) (result : OutsideResult) → event_told (owed_outside two result) ≡ None
outside_tells two (Stops stop) = refl
outside_tells two (Begins regs) = refl
outside_tells two (Goes regs store) = either two Loaded Plain refl refl

room_tells : (setting : Setting) (body : Body) (stores : Stores) (outcome : Outcome) → event_told outcome ≡ None →
    event_told (owed_with_room setting body stores outcome) ≡ None
room_tells setting body stores outcome tells = either _ outcome (abort_at Capacity body.depth) tells refl

inside_tells : (setting : Setting) (body : Body) (result : InsideResult) →
    event_told (owed_inside setting body result) ≡ None
inside_tells setting body (Fails cause) = refl
inside_tells setting body (GoesOn regs store) = room_tells setting body (stores_of store) Inside refl
inside_tells setting body (Nests regs) = room_tells setting body [] Inside refl
inside_tells setting body (Ends regs) =
    room_tells setting body [] _ (either (nat_eq body.depth 1) Committed Inside refl refl)

after_tells : (setting : Setting) (memory : List ℕ) (body : Option Body) →
    event_told (owed_after setting memory body) ≡ None
after_tells setting memory None = refl
after_tells setting memory (Some body) = inside_tells setting body (instruction_after setting memory body)

-- what is owed to what a core sees tells of none
pub no_event_told : (setting : Setting) (memory : List ℕ) (core : Core) (doom : Option ℕ) →
    event_told (owed_outcome setting memory core doom) ≡ None
no_event_told setting memory (Halted regs stop) doom = refl
no_event_told setting memory (Closed regs) (Some depth) = refl
no_event_told setting memory (Midway regs value) (Some depth) = refl
no_event_told setting memory (Opened regs steps) (Some depth) = refl
no_event_told setting memory (Midway regs value) None = refl
no_event_told setting memory (Closed regs) None =
    outside_tells (setting.takes_two_steps regs) (outside_at setting regs memory)
no_event_told setting memory (Opened regs steps) None =
    after_tells setting memory (isolated_body setting regs memory steps)

-- an outcome that is owed under an event, or under none, is owed under the event that it tells of, so that a history is
-- made again by the picks that tell it; a store that an instruction waits for is told as one that drains by itself
drained_or : (t : Bool) (setting : Setting) (memory : List ℕ) (oldest : Store) (younger : Pending) (core : Core)
    (doom : Option ℕ) (outcome : Outcome) → event_told outcome ≡ None →
    owed_with_pending setting memory (oldest ∷ younger) core doom ≡ (if t then Drained else outcome) →
    (if t then Drained else outcome)
    ≡ owed_under (event_told (if t then Drained else outcome)) setting memory (oldest ∷ younger) core doom
drained_or true setting memory oldest younger core doom outcome tells owed = refl
drained_or false setting memory oldest younger core doom outcome tells owed =
    sym owed ∙ ap (λ event. owed_under event setting memory (oldest ∷ younger) core doom) (sym tells)

unmoved : (setting : Setting) (memory : List ℕ) (pending : Pending) (core : Core) (doom : Option ℕ) →
    owed_with_pending setting memory pending core doom
    ≡ owed_under (event_told (owed_with_pending setting memory pending core doom)) setting memory pending core doom
unmoved setting memory [] core doom =
    ap (λ event. owed_under event setting memory [] core doom) (sym (no_event_told setting memory core doom))
unmoved setting memory (oldest ∷ younger) core doom =
    drained_or (must_wait setting (seen_memory memory (oldest ∷ younger)) (oldest ∷ younger) core
    (owed_outcome setting (seen_memory memory (oldest ∷ younger)) core doom)) setting memory oldest younger core doom
    (owed_outcome setting (seen_memory memory (oldest ∷ younger)) core doom)
    (no_event_told setting (seen_memory memory (oldest ∷ younger)) core doom) refl

pub owed_as_told : (event : Option Event) (setting : Setting) (memory : List ℕ) (pending : Pending) (core : Core)
    (doom : Option ℕ) → owed_under event setting memory pending core doom
    ≡ owed_under (event_told (owed_under event setting memory pending core doom)) setting memory pending core doom
owed_as_told (Some event.Drain) setting memory (oldest ∷ younger) core doom = refl
owed_as_told (Some (event.Abort by)) setting memory [] (Opened regs steps) None = refl
owed_as_told (Some (event.Abort by)) setting memory (oldest ∷ younger) (Opened regs steps) None = refl
owed_as_told event setting memory pending core doom = unmoved setting memory pending core doom

-- so it is owed in a history
pub owed_in_history : (event : Option Event) (setting : Setting) (state : State) (doomed : Doomed) (number : ℕ)
    (outcome : Outcome) → IsOwedUnder event setting state doomed number outcome →
    IsOwed setting state doomed number outcome
owed_in_history event setting state doomed number outcome owes =
    subst (λ (told : Outcome). IsOwed setting state doomed number told) (sym owes)
    (owed_as_told event setting state.memory (state.pending number) (state.cores number) (doomed number))

-- ---- steps under no event tell of no abort from outside of the program

-- an outcome that tells of no event is no such abort
pub aborted_by_none : (outcome : Outcome) → event_told outcome ≡ None → is_aborted_by outcome ≡ false
aborted_by_none (AbortedBy by status) tells = cc
aborted_by_none Drained tells = refl
aborted_by_none (Aborted status) tells = refl
aborted_by_none Plain tells = refl
aborted_by_none Loaded tells = refl
aborted_by_none (Stopped stop) tells = refl
aborted_by_none Idle tells = refl
aborted_by_none Begun tells = refl
aborted_by_none Inside tells = refl
aborted_by_none Committed tells = refl

-- of a drain it may tell, where it waits
drain_aborts_none : (t : Bool) (outcome : Outcome) → event_told outcome ≡ None →
    is_aborted_by (if t then Drained else outcome) ≡ false
drain_aborts_none true outcome tells = refl
drain_aborts_none false outcome tells = aborted_by_none outcome tells

pub no_abort_told : (setting : Setting) (state : State) (doomed : Doomed) (number : ℕ) (outcome : Outcome) →
    IsOwedUnder None setting state doomed number outcome → is_aborted_by outcome ≡ false
no_abort_told setting state doomed number outcome owes =
    let seen : List ℕ = seen_by state number in
    let owed : Outcome = owed_outcome setting seen (state.cores number) (doomed number) in
    ap is_aborted_by owes
    ∙ drain_aborts_none (must_wait setting seen (state.pending number) (state.cores number) owed) owed
    (no_event_told setting seen (state.cores number) (doomed number))

-- where no store is pending, a step under no event tells of none
pub none_told : (setting : Setting) (memory : List ℕ) (core : Core) (doom : Option ℕ) →
    event_told (owed_under None setting memory [] core doom) ≡ None
none_told setting memory core doom = no_event_told setting memory core doom

-- one step as a history
pub step_tells_no_abort : (number : ℕ) (outcome : Outcome) → is_aborted_by outcome ≡ false →
    TellNoAbort ((number, outcome) ∷ [])
step_tells_no_abort number outcome tells =
    All-cons (λ (taken : ℕ × Outcome). is_aborted_by taken.1 ≡ false) (number, outcome) [] tells
    (All-nil (λ (taken : ℕ × Outcome). is_aborted_by taken.1 ≡ false))

-- ---- where each step is under an event, as where RTM always aborts

-- no transaction is open, or its conflict has doomed it
abbrev IsOutside : Core → Option ℕ → Type 0
IsOutside (Opened regs steps) None = ⊥
IsOutside core doom = Unit {0}

outside_commits : (two : Bool) (result : OutsideResult) → owed_outside two result ≡ Committed → ⊥
outside_commits two (Stops stop) is = cc
outside_commits two (Begins regs) is = cc
outside_commits true (Goes regs store) is = cc
outside_commits false (Goes regs store) is = cc

outcome_commits : (setting : Setting) (memory : List ℕ) (core : Core) (doom : Option ℕ) →
    IsOutside core doom → owed_outcome setting memory core doom ≡ Committed → ⊥
outcome_commits setting memory (Halted regs stop) doom outside is = cc
outcome_commits setting memory (Closed regs) (Some depth) outside is = cc
outcome_commits setting memory (Midway regs value) (Some depth) outside is = cc
outcome_commits setting memory (Opened regs steps) (Some depth) outside is = cc
outcome_commits setting memory (Midway regs value) None outside is = cc
outcome_commits setting memory (Opened regs steps) None outside is = elim outside [ ]
outcome_commits setting memory (Closed regs) None outside is =
    outside_commits (setting.takes_two_steps regs) (outside_at setting regs memory) is

drained_commits : (t : Bool) (outcome : Outcome) → (outcome ≡ Committed → ⊥) →
    (if t then Drained else outcome) ≡ Committed → ⊥
drained_commits true outcome never is = cc
drained_commits false outcome never is = never is

waiting_commits : (setting : Setting) (memory : List ℕ) (pending : Pending) (core : Core) (doom : Option ℕ) →
    IsOutside core doom → owed_with_pending setting memory pending core doom ≡ Committed → ⊥
waiting_commits setting memory pending core doom outside =
    let seen : List ℕ = seen_memory memory pending in
    drained_commits (must_wait setting seen pending core (owed_outcome setting seen core doom)) _
    (outcome_commits setting seen core doom outside)

-- no transaction commits
pub nothing_commits : (by : Interference) (setting : Setting) (memory : List ℕ) (pending : Pending) (core : Core)
    (doom : Option ℕ) → owed_under (Some (event.Abort by)) setting memory pending core doom ≡ Committed → ⊥
nothing_commits by setting memory pending (Opened regs steps) None is = cc
nothing_commits by setting memory pending (Halted regs stop) doom is =
    waiting_commits setting memory pending (Halted regs stop) doom tt is
nothing_commits by setting memory pending (Closed regs) doom is =
    waiting_commits setting memory pending (Closed regs) doom tt is
nothing_commits by setting memory pending (Midway regs value) doom is =
    waiting_commits setting memory pending (Midway regs value) doom tt is
nothing_commits by setting memory pending (Opened regs steps) (Some depth) is =
    waiting_commits setting memory pending (Opened regs steps) (Some depth) tt is
