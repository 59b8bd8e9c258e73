-- States in which no store is pending, where none may be: a core sees memory itself, a step is the one of memory, it
-- hits whom it stores to, and none is pending behind it.
use Rattle.std.specs.Prelude.{◌≡◌, ℕ, Bool, true, false, List, [], ◌∷◌, Option, Some, None, option_map, nat_eq}
use Rattle.std.specs.Prelude.{nat_lt, if◌then◌else◌}
use Rattle.std.proofs.Common.{◌<◌, refl, ap, sym, ◌∙◌, subst}
use Rattle.std.proofs.lemmas.Bool.{eqb-true, ltb-true}
use Rattle.std.proofs.lemmas.Option.{option_and_then_some, same_Some}
use Rattle.ia_image.specs.Program.{ProgramValue as Program}
use Rattle.tm_model.specs.Conflicts.{Doomed, addresses_loaded_by, addresses_stored_by, addresses_written_by}
use Rattle.tm_model.specs.Conflicts.{doom_after_other, doom_after_own, doomed_after}
use Rattle.tm_model.specs.Owed.{owed_under}
use Rattle.tm_model.specs.Runs.{event_told, is_aborted_by}
use Rattle.tm_model.specs.Setting.{Setting}
use Rattle.tm_model.specs.State.{Core, Pending, State, opening_state, seen_by, seen_memory}
use Rattle.tm_model.specs.Steps.{Change, Next, after_step, after_step_of, run, state_with, step}
use Rattle.tm_model.specs.Types.{Aborted, AbortedBy, Begun, Committed, Drained, Event, Idle, Inside, Loaded, Outcome}
use Rattle.tm_model.specs.Types.{Plain, Stopped}
use Rattle.tm_model.proofs.WithoutBuffer.{same_after_step, same_writes}

-- ---- what a core sees, and what is owed

pub seen_is : (state : State) (number : ℕ) → state.pending number ≡ [] → seen_by state number ≡ state.memory
seen_is state number none = ap (seen_memory state.memory) none

pub owed_is : (event : Option Event) (setting : Setting) (memory : List ℕ) (pending : Pending) (core : Core)
    (doom : Option ℕ) → pending ≡ [] →
    owed_under event setting memory pending core doom ≡ owed_under event setting memory [] core doom
owed_is event setting memory pending core doom none =
    ap (λ (left : Pending). owed_under event setting memory left core doom) none

-- ---- a step

abbrev pub with_none : List ℕ × Core → Next
with_none change = (change.0, ([], change.1))

-- what it does to memory and to its core
pub record PlainStep (setting : Setting) (state : State) (number : ℕ) (outcome : Outcome) (next : State)
    : Type 0 where
  pub change : List ℕ × Core
  pub is : after_step_of setting state.memory (state.cores number) outcome ≡ Some change
  pub gives : state_with state number (with_none change) ≡ next

parts : (setting : Setting) (state : State) (number : ℕ) (outcome : Outcome) (next : State) (within : Bool)
    (change : Change) → after_step_of setting state.memory (state.cores number) outcome ≡ change →
    (if within then option_map (state_with state number) (option_map with_none change) else None) ≡ Some next →
    PlainStep setting state number outcome next
parts setting state number outcome next true (Some change) is e = record {
  change = change;
  is = is;
  gives = same_Some (state_with state number (with_none change)) next e;
}
parts setting state number outcome next true None is e = cc
parts setting state number outcome next false change is e = cc

pub plain_step : (setting : Setting) (state : State) (number : ℕ) (outcome : Outcome) (next : State) →
    setting.store_buffer ≡ 0 → state.pending number ≡ [] → step setting state number outcome ≡ Some next →
    PlainStep setting state number outcome next
plain_step setting state number outcome next off none e =
    let core : Core = state.cores number in
    let same : after_step setting state.memory (state.pending number) core outcome
    ≡ option_map with_none (after_step_of setting state.memory core outcome) =
    ap (λ (left : Pending). after_step setting state.memory left core outcome) none
    ∙ same_after_step setting state.memory core outcome off in
    parts setting state number outcome next (nat_lt number state.count)
    (after_step_of setting state.memory core outcome) refl
    (subst (λ (made : Option Next). (if nat_lt number state.count
    then option_map (state_with state number) made
    else None) ≡ Some next) same e)

-- where it is what follows from what there is
pub stepped_is : (setting : Setting) (state : State) (number : ℕ) (outcome : Outcome) (change : List ℕ × Core) →
    setting.store_buffer ≡ 0 → state.pending number ≡ [] → nat_lt number state.count ≡ true →
    after_step_of setting state.memory (state.cores number) outcome ≡ Some change →
    step setting state number outcome ≡ Some (state_with state number (with_none change))
stepped_is setting state number outcome change off none there is =
    let core : Core = state.cores number in
    let same : after_step setting state.memory (state.pending number) core outcome ≡ Some (with_none change) =
    ap (λ (left : Pending). after_step setting state.memory left core outcome) none
    ∙ (same_after_step setting state.memory core outcome off ∙ ap (option_map with_none) is) in
    ap (λ t. if t
    then option_map (state_with state number) (after_step setting state.memory (state.pending number) core outcome)
    else None) there
    ∙ ap (option_map (state_with state number)) same

pub either_none : (t : Bool) (left : Pending) → left ≡ [] → (if t then [] else left) ≡ []
either_none true left none = refl
either_none false left none = none

-- what is pending stays as it was
pub pending_stays : (state : State) (number other : ℕ) → state.pending number ≡ [] →
    (if nat_eq other number then [] else state.pending other) ≡ state.pending other
pending_stays state number other none = on (nat_eq other number) refl
  where
    on : (own : Bool) → nat_eq other number ≡ own → (if own then [] else state.pending other) ≡ state.pending other
    on true is = sym (ap state.pending (eqb-true other number is) ∙ none)
    on false is = refl

-- none is pending behind it
pub none_after : (setting : Setting) (state : State) (number : ℕ) (outcome : Outcome) (next : State) →
    PlainStep setting state number outcome next → (other : ℕ) → state.pending other ≡ [] → next.pending other ≡ []
none_after setting state number outcome next made other none =
    ap (λ (s : State). s.pending other) (sym made.gives)
    ∙ either_none (nat_eq other number) (state.pending other) none

-- ---- whom it hits

pub written_is : (setting : Setting) (memory : List ℕ) (pending : Pending) (core : Core) (outcome : Outcome) →
    setting.store_buffer ≡ 0 → pending ≡ [] →
    addresses_written_by setting memory pending core outcome ≡ addresses_stored_by setting memory core outcome
written_is setting memory pending core outcome off none =
    ap (λ (left : Pending). addresses_written_by setting memory left core outcome) none
    ∙ same_writes setting memory core outcome off

-- by what it loads from memory and stores there
abbrev pub doom_alone : Setting → State → Doomed → ℕ → Outcome → Doomed
doom_alone setting state doomed number outcome other =
    if nat_eq other number
    then doom_after_own outcome (doomed number)
    else
    doom_after_other setting state.memory
    (addresses_loaded_by setting state.memory (state.cores number) outcome)
    (addresses_stored_by setting state.memory (state.cores number) outcome)
    (state.cores other) (doomed other)

pub doom_is : (setting : Setting) (state : State) (doomed : Doomed) (number : ℕ) (outcome : Outcome) (other : ℕ) →
    setting.store_buffer ≡ 0 → state.pending number ≡ [] → state.pending other ≡ [] →
    doomed_after setting state doomed number outcome other ≡ doom_alone setting state doomed number outcome other
doom_is setting state doomed number outcome other off none others = λ i.
    if nat_eq other number
    then doom_after_own outcome (doomed number)
    else
    doom_after_other setting (seen_is state other others i)
    (addresses_loaded_by setting (seen_is state number none i) (state.cores number) outcome)
    (written_is setting state.memory (state.pending number) (state.cores number) outcome off none i)
    (state.cores other) (doomed other)

-- ---- a run

-- of no core
abbrev pub NonePending : State → Type 0
NonePending state = (number : ℕ) → number < state.count → state.pending number ≡ []

-- a core that steps is one of the state's
pub within : (setting : Setting) (state : State) (number : ℕ) (outcome : Outcome) (next : State) →
    step setting state number outcome ≡ Some next → number < state.count
within setting state number outcome next = on (nat_lt number state.count) refl
  where
    on : (there : Bool) → nat_lt number state.count ≡ there →
        (if there
        then option_map (state_with state number)
        (after_step setting state.memory (state.pending number) (state.cores number) outcome)
        else None) ≡ Some next →
        number < state.count
    on true is e = ltb-true number state.count is
    on false is e = cc

-- there is nothing to drain
pub no_drain : (setting : Setting) (state : State) (number : ℕ) (next : State) → NonePending state →
    step setting state number Drained ≡ Some next → ⊥
no_drain setting state number next none e =
    let left : state.pending number ≡ [] = none number (within setting state number Drained next e) in
    drains (nat_lt number state.count)
    (subst (λ (left : Pending). (if nat_lt number state.count
    then option_map (state_with state number) (after_step setting state.memory left (state.cores number) Drained)
    else None) ≡ Some next) left e)
  where
    drains : (there : Bool) → (if there
        then option_map (state_with state number) (after_step setting state.memory [] (state.cores number) Drained)
        else None) ≡ Some next → ⊥
    drains true e = cc
    drains false e = cc

-- so that a step that is no abort from outside of the program tells of no event
pub tells_none : (setting : Setting) (state : State) (number : ℕ) (outcome : Outcome) (next : State) →
    NonePending state → step setting state number outcome ≡ Some next → is_aborted_by outcome ≡ false →
    event_told outcome ≡ None
tells_none setting state number Drained next none e tells = absurd (no_drain setting state number next none e)
tells_none setting state number (AbortedBy by status) next none e tells = cc
tells_none setting state number (Aborted status) next none e tells = refl
tells_none setting state number Plain next none e tells = refl
tells_none setting state number Loaded next none e tells = refl
tells_none setting state number (Stopped stop) next none e tells = refl
tells_none setting state number Idle next none e tells = refl
tells_none setting state number Begun next none e tells = refl
tells_none setting state number Inside next none e tells = refl
tells_none setting state number Committed next none e tells = refl

pub none_behind : (setting : Setting) (state : State) (number : ℕ) (outcome : Outcome) (next : State) →
    setting.store_buffer ≡ 0 → NonePending state → step setting state number outcome ≡ Some next → NonePending next
none_behind setting state number outcome next off none e =
    let made : PlainStep setting state number outcome next =
    plain_step setting state number outcome next off
    (none number (within setting state number outcome next e)) e in
    λ other below. none_after setting state number outcome next made other
    (none other (subst (λ (count : ℕ). other < count) (ap (λ (s : State). s.count) (sym made.gives)) below))

pub none_at_end : (setting : Setting) (state : State) (history : List (ℕ × Outcome)) (end : State) →
    setting.store_buffer ≡ 0 → NonePending state → run setting state history ≡ Some end → NonePending end
none_at_end setting state [] end off none e =
    let same : state ≡ end = same_Some state end e in
    subst NonePending same none
none_at_end setting state (taken ∷ history) end off none e =
    option_and_then_some (λ (next : State). run setting next history) (step setting state taken.0 taken.1) end e
    (λ next is rest. none_at_end setting next history end off
    (none_behind setting state taken.0 taken.1 next off none is) rest)

pub none_at_first : (program : Program) → NonePending (opening_state program)
none_at_first program number below = refl
