-- Where no store may be pending the machine is the one without store buffers: its state, its steps, whom they hit and
-- which outcomes are owed stand here as they are said without them, and the definitions come to the same, step by step
-- and history by history.
use Rattle.std.specs.Prelude.{◌≡◌, ℕ, Bool, true, false, List, [], ◌∷◌, Option, Some, None, option_map, option_and_then}
use Rattle.std.specs.Prelude.{MatchOption, nat_eq, nat_lt, if◌then◌else◌}
use Rattle.std.proofs.Common.{refl, ap, ◌∙◌}
use Rattle.tm_model.specs.Conflicts.{Doomed, addresses_at_once, addresses_loaded_by, addresses_stored_by}
use Rattle.tm_model.specs.Conflicts.{addresses_written_by}
use Rattle.tm_model.specs.Conflicts.{doom_after_other, doom_after_own, doomed_after}
use Rattle.tm_model.specs.Owed.{owed_outcome, owed_under, owed_with_pending}
use Rattle.tm_model.specs.Runs.{AreOwed, IsOwed, event_told}
use Rattle.tm_model.specs.Setting.{Setting}
use Rattle.tm_model.specs.State.{Closed, Core, Halted, Midway, Opened, Pending, State}
use Rattle.tm_model.specs.Steps.{Change, Next, after_step, after_step_of, run, settled, state_with, step}
use Rattle.tm_model.specs.Steps.{store_buffered}
use Rattle.tm_model.specs.Steps.{store_outside}
use Rattle.tm_model.specs.Types.{Aborted, AbortedBy, Begun, Committed, Drained, Idle, Inside, Loaded, Outcome, Plain}
use Rattle.tm_model.specs.Types.{Stopped}

-- ---- the machine without store buffers

pub record FlatState : Type 0 where
  pub memory : List ℕ
  pub count : ℕ
  pub cores : ℕ → Core

abbrev pub flat_with : FlatState → ℕ → List ℕ × Core → FlatState
flat_with state number change = record {
  memory = change.0;
  count = state.count;
  cores = λ other. if nat_eq other number then change.1 else state.cores other;
}

abbrev pub flat_step : Setting → FlatState → ℕ → Outcome → Option FlatState
flat_step setting state number outcome =
    if nat_lt number state.count
    then option_map (flat_with state number) (after_step_of setting state.memory (state.cores number) outcome)
    else None

abbrev pub flat_run : Setting → FlatState → List (ℕ × Outcome) → Option FlatState
flat_run setting state [] = Some state
flat_run setting state (taken ∷ history) =
    option_and_then (λ next. flat_run setting next history) (flat_step setting state taken.0 taken.1)

abbrev pub flat_doomed_after : Setting → FlatState → Doomed → ℕ → Outcome → Doomed
flat_doomed_after setting state doomed number outcome other =
    if nat_eq other number
    then doom_after_own outcome (doomed number)
    else
    doom_after_other setting state.memory
    (addresses_loaded_by setting state.memory (state.cores number) outcome)
    (addresses_stored_by setting state.memory (state.cores number) outcome)
    (state.cores other) (doomed other)

abbrev pub FlatIsOwed : Setting → FlatState → Doomed → ℕ → Outcome → Type 0
FlatIsOwed setting state doomed number outcome =
    outcome ≡ owed_outcome setting state.memory (state.cores number) (doomed number)

abbrev pub FlatAreOwed : Setting → FlatState → Doomed → List (ℕ × Outcome) → Type 0
FlatAreOwed setting state doomed [] = Unit {0}
FlatAreOwed setting state doomed (taken ∷ history) =
    FlatIsOwed setting state doomed taken.0 taken.1
    × MatchOption (flat_step setting state taken.0 taken.1) ⊥
    (λ next. FlatAreOwed setting next (flat_doomed_after setting state doomed taken.0 taken.1) history)

-- the same state, in which no store is pending
abbrev pub of_flat : FlatState → State
of_flat state = record { memory = state.memory; count = state.count; cores = state.cores; pending = λ _. [] }

-- ---- a step

abbrev with_none : List ℕ × Core → Next
with_none change = (change.0, ([], change.1))

none_buffered : (setting : Setting) (memory : List ℕ) (core : Core) (outcome : Outcome) → setting.store_buffer ≡ 0 →
    store_buffered setting memory core outcome ≡ None
none_buffered setting memory core outcome off =
    ap (λ most. if nat_eq most 0 then None else store_outside setting memory core outcome) off

settles : (setting : Setting) (memory : List ℕ) (core : Core) (outcome : Outcome) → setting.store_buffer ≡ 0 →
    option_map (settled memory [] (store_buffered setting memory core outcome))
    (after_step_of setting memory core outcome)
    ≡ option_map with_none (after_step_of setting memory core outcome)
settles setting memory core outcome off =
    ap (λ store. option_map (settled memory [] store) (after_step_of setting memory core outcome))
    (none_buffered setting memory core outcome off)
    ∙ settles_none memory (after_step_of setting memory core outcome)
  where
    settles_none : (memory : List ℕ) (change : Change) →
        option_map (settled memory [] None) change ≡ option_map with_none change
    settles_none memory None = refl
    settles_none memory (Some change) = refl

no_drain : (setting : Setting) (memory : List ℕ) (core : Core) →
    after_step setting memory [] core Drained ≡ option_map with_none (after_step_of setting memory core Drained)
no_drain setting memory (Closed regs) = refl
no_drain setting memory (Midway regs value) = refl
no_drain setting memory (Halted regs stop) = refl
no_drain setting memory (Opened regs steps) = refl

pub same_after_step : (setting : Setting) (memory : List ℕ) (core : Core) (outcome : Outcome) →
    setting.store_buffer ≡ 0 →
    after_step setting memory [] core outcome ≡ option_map with_none (after_step_of setting memory core outcome)
same_after_step setting memory core Drained off = no_drain setting memory core
same_after_step setting memory core Plain off = settles setting memory core Plain off
same_after_step setting memory core Loaded off = settles setting memory core Loaded off
same_after_step setting memory core (Stopped stop) off = settles setting memory core (Stopped stop) off
same_after_step setting memory core Idle off = settles setting memory core Idle off
same_after_step setting memory core Begun off = settles setting memory core Begun off
same_after_step setting memory core Inside off = settles setting memory core Inside off
same_after_step setting memory core Committed off = settles setting memory core Committed off
same_after_step setting memory core (Aborted status) off = settles setting memory core (Aborted status) off
same_after_step setting memory core (AbortedBy by status) off = settles setting memory core (AbortedBy by status) off

abbrev none : Pending
none = []

either_none : (t : Bool) → (if t then none else none) ≡ none
either_none true = refl
either_none false = refl

same_with : (state : FlatState) (number : ℕ) (change : Change) →
    option_map (state_with (of_flat state) number) (option_map with_none change)
    ≡ option_map of_flat (option_map (flat_with state number) change)
same_with state number None = refl
same_with state number (Some change) = λ i. Some (record {
  memory = change.0;
  count = state.count;
  cores = λ other. if nat_eq other number then change.1 else state.cores other;
  pending = λ other. either_none (nat_eq other number) i;
})

within : (t : Bool) (state : FlatState) (one : Option State) (other : Option FlatState)
    → one ≡ option_map of_flat other →
    (if t then one else None) ≡ option_map of_flat (if t then other else None)
within true state one other same = same
within false state one other same = refl

pub same_step : (setting : Setting) (state : FlatState) (number : ℕ) (outcome : Outcome) → setting.store_buffer ≡ 0 →
    step setting (of_flat state) number outcome ≡ option_map of_flat (flat_step setting state number outcome)
same_step setting state number outcome off =
    within (nat_lt number state.count) state _ _
    (ap (option_map (state_with (of_flat state) number))
    (same_after_step setting state.memory (state.cores number) outcome off)
    ∙ same_with state number (after_step_of setting state.memory (state.cores number) outcome))

pub same_run : (setting : Setting) (state : FlatState) (history : List (ℕ × Outcome)) → setting.store_buffer ≡ 0 →
    run setting (of_flat state) history ≡ option_map of_flat (flat_run setting state history)
same_run setting state [] off = refl
same_run setting state (taken ∷ history) off =
    ap (option_and_then (λ next. run setting next history)) (same_step setting state taken.0 taken.1 off)
    ∙ goes_on (λ next. same_run setting next history off) (flat_step setting state taken.0 taken.1)
  where
    goes_on : ((next : FlatState)
        → run setting (of_flat next) history ≡ option_map of_flat (flat_run setting next history))
        → (next : Option FlatState) →
        option_and_then (λ next. run setting next history) (option_map of_flat next)
        ≡ option_map of_flat (option_and_then (λ next. flat_run setting next history) next)
    goes_on rest None = refl
    goes_on rest (Some next) = rest next

-- ---- who is hit

no_write : (setting : Setting) (memory : List ℕ) (core : Core) →
    addresses_written_by setting memory [] core Drained ≡ addresses_stored_by setting memory core Drained
no_write setting memory (Closed regs) = refl
no_write setting memory (Midway regs value) = refl
no_write setting memory (Halted regs stop) = refl
no_write setting memory (Opened regs steps) = refl

at_once : (setting : Setting) (memory : List ℕ) (core : Core) (outcome : Outcome) → setting.store_buffer ≡ 0 →
    addresses_at_once (store_buffered setting memory core outcome) (addresses_stored_by setting memory core outcome)
    ≡ addresses_stored_by setting memory core outcome
at_once setting memory core outcome off =
    ap (λ store. addresses_at_once store (addresses_stored_by setting memory core outcome))
    (none_buffered setting memory core outcome off)

pub same_writes : (setting : Setting) (memory : List ℕ) (core : Core) (outcome : Outcome) → setting.store_buffer ≡ 0 →
    addresses_written_by setting memory [] core outcome ≡ addresses_stored_by setting memory core outcome
same_writes setting memory core Drained off = no_write setting memory core
same_writes setting memory core Plain off = at_once setting memory core Plain off
same_writes setting memory core Loaded off = at_once setting memory core Loaded off
same_writes setting memory core (Stopped stop) off = at_once setting memory core (Stopped stop) off
same_writes setting memory core Idle off = at_once setting memory core Idle off
same_writes setting memory core Begun off = at_once setting memory core Begun off
same_writes setting memory core Inside off = at_once setting memory core Inside off
same_writes setting memory core Committed off = at_once setting memory core Committed off
same_writes setting memory core (Aborted status) off = at_once setting memory core (Aborted status) off
same_writes setting memory core (AbortedBy by status) off = at_once setting memory core (AbortedBy by status) off

pub same_doomed : (setting : Setting) (state : FlatState) (doomed : Doomed) (number : ℕ) (outcome : Outcome) →
    setting.store_buffer ≡ 0 →
    doomed_after setting (of_flat state) doomed number outcome ≡ flat_doomed_after setting state doomed number outcome
same_doomed setting state doomed number outcome off = λ i other.
    if nat_eq other number
    then doom_after_own outcome (doomed number)
    else
    doom_after_other setting state.memory
    (addresses_loaded_by setting state.memory (state.cores number) outcome)
    (same_writes setting state.memory (state.cores number) outcome off i)
    (state.cores other) (doomed other)

-- ---- which outcome is owed

-- with no store pending, whatever may be
pub same_owed : (setting : Setting) (memory : List ℕ) (core : Core) (doom : Option ℕ) →
    owed_with_pending setting memory [] core doom ≡ owed_outcome setting memory core doom
same_owed setting memory core doom = refl

-- an outcome that tells of no event
pub same_is_owed : (setting : Setting) (state : FlatState) (doomed : Doomed) (number : ℕ) (outcome : Outcome) →
    event_told outcome ≡ None →
    IsOwed setting (of_flat state) doomed number outcome ≡ FlatIsOwed setting state doomed number outcome
same_is_owed setting state doomed number outcome tells =
    ap (λ event. outcome ≡ owed_under event setting state.memory [] (state.cores number) (doomed number)) tells

-- a history that tells of no event
abbrev pub TellsNone : List (ℕ × Outcome) → Type 0
TellsNone [] = Unit {0}
TellsNone (taken ∷ history) = (event_told taken.1 ≡ None) × TellsNone history

pub same_are_owed : (setting : Setting) (state : FlatState) (doomed : Doomed) (history : List (ℕ × Outcome)) →
    setting.store_buffer ≡ 0 → TellsNone history →
    AreOwed setting (of_flat state) doomed history ≡ FlatAreOwed setting state doomed history
same_are_owed setting state doomed [] off tells = refl
same_are_owed setting state doomed (taken ∷ history) off tells =
    ap (λ (first : Type 0). first
    × MatchOption (step setting (of_flat state) taken.0 taken.1) ⊥
    (λ next. AreOwed setting next (doomed_after setting (of_flat state) doomed taken.0 taken.1) history))
    (same_is_owed setting state doomed taken.0 taken.1 tells.0)
    ∙ ap (λ dooms. FlatIsOwed setting state doomed taken.0 taken.1
    × MatchOption (step setting (of_flat state) taken.0 taken.1) ⊥
    (λ next. AreOwed setting next dooms history))
    (same_doomed setting state doomed taken.0 taken.1 off)
    ∙ ap (λ stepped. FlatIsOwed setting state doomed taken.0 taken.1
    × MatchOption stepped ⊥
    (λ next. AreOwed setting next (flat_doomed_after setting state doomed taken.0 taken.1) history))
    (same_step setting state taken.0 taken.1 off)
    ∙ ap (λ (rest : Type 0). FlatIsOwed setting state doomed taken.0 taken.1 × rest)
    (goes_on (λ next. same_are_owed setting next (flat_doomed_after setting state doomed taken.0 taken.1) history off
    tells.1) (flat_step setting state taken.0 taken.1))
  where
    goes_on : ((next : FlatState) →
        AreOwed setting (of_flat next) (flat_doomed_after setting state doomed taken.0 taken.1) history
        ≡ FlatAreOwed setting next (flat_doomed_after setting state doomed taken.0 taken.1) history) →
        (next : Option FlatState) →
        MatchOption (option_map of_flat next) ⊥
        (λ next. AreOwed setting next (flat_doomed_after setting state doomed taken.0 taken.1) history)
        ≡ MatchOption next ⊥
        (λ next. FlatAreOwed setting next (flat_doomed_after setting state doomed taken.0 taken.1) history)
    goes_on rest None = refl
    goes_on rest (Some next) = rest next
