-- Quiet steps: outside of transactions, loading nothing, and storing nothing or into the core's own store buffer. No
-- other core and no drain makes a difference to one, and it makes none to them. So a search for the states in which
-- each core has stopped may make such a step first, and no other: each schedule that ends is one, with the same length
-- and the same end, that begins with it.
use Rattle.std.specs.Prelude.{◌≡◌, ℕ, suc, Bool, true, false, not, ◌||◌, List, [], ◌∷◌, ◌++◌, Option, Some, None}
use Rattle.std.specs.Prelude.{length, option_map, option_and_then, nat_eq, nat_lt, if◌then◌else◌}
use Rattle.std.proofs.Common.{◌<◌, refl, ap, sym, ◌∙◌, subst, arith}
use Rattle.std.proofs.lemmas.Bool.{eq-eqb, eqb-true, ltb-true, lt-ltb, true≢false}
use Rattle.std.proofs.lemmas.Option.{option_and_then_some, same_Some}
use Rattle.tm_model.specs.Access.{bytes_at, memory_after, stored_addresses, stores_of}
use Rattle.tm_model.specs.Conflicts.{Doomed, addresses_at_once, addresses_loaded_by, addresses_stored_by}
use Rattle.tm_model.specs.Conflicts.{addresses_stored_outside}
use Rattle.tm_model.specs.Conflicts.{addresses_written_by, doom_after_other, doom_after_own, doomed_after}
use Rattle.tm_model.specs.Owed.{owed_outcome, owed_outside, owed_under, owed_with_pending}
use Rattle.tm_model.specs.Setting.{Setting, outside_at}
use Rattle.tm_model.specs.State.{Closed, Halted, Pending, State, seen_by, seen_memory, with_store}
use Rattle.tm_model.specs.Steps.{Next, after_drain, after_plain, after_step, after_step_of, must_wait, needs_room}
use Rattle.tm_model.specs.Steps.{settled, state_with, step, store_buffered, store_of, store_outside}
use Rattle.tm_model.specs.Types.{Drained, Event, Goes, Outcome, Pick, Plain, Regs, Stop, Store}
use Rattle.tm_model.specs.declared.outcome.Event.TheVariants as event
use Rattle.tm_model.proofs.Sanity.{none_hit}

-- ---- quiet steps

abbrev pub HasRoom : Setting → Pending → Option Store → Type 0
HasRoom setting pending None = Unit {0}
HasRoom setting pending (Some store) = nat_lt (length pending) setting.store_buffer ≡ true

-- the next step of the core of this number is quiet: it leads to these registers, and stores this
pub record IsQuiet (setting : Setting) (state : State) (number : ℕ) (regs next : Regs)
    (store : Option Store) : Type 0 where
  pub closed : state.cores number ≡ Closed regs
  pub whole : setting.takes_two_steps regs ≡ false
  pub passes : setting.waits regs ≡ false
  pub loads : setting.load_of regs ≡ []
  pub goes : setting.outside regs (setting.value_of regs []) ≡ Goes next store
  pub room : HasRoom setting (state.pending number) store

abbrev pub pushed : Pending → Option Store → Pending
pushed pending None = pending
pushed pending (Some store) = pending ++ store ∷ []

-- the state after it
abbrev pub moved : State → ℕ → Regs → Option Store → State
moved state number next store = record {
  memory = state.memory;
  count = state.count;
  cores = λ other. if nat_eq other number then Closed next else state.cores other;
  pending = λ other. if nat_eq other number then pushed (state.pending number) store else state.pending other;
}

-- ---- what it comes to

on : (most : ℕ) (pending : Pending) → nat_lt (length pending) most ≡ true → nat_eq most 0 ≡ true → ⊥
on most pending room is =
    let below : length pending < most = ltb-true (length pending) most room in
    let none : most ≡ 0 = eqb-true most 0 is in
    omega arith

settles : (setting : Setting) (memory : List ℕ) (pending : Pending) (next : Regs) (store : Option Store) →
    HasRoom setting pending store
    → (off : Bool) → (nat_lt (length pending) setting.store_buffer ≡ true → off ≡ true → ⊥) →
    settled memory pending (if off then None else store)
    (memory_after (seen_memory memory pending) (stores_of store), Closed next)
    ≡ (memory, (pushed pending store, Closed next))
settles setting memory [] next None room true on = refl
settles setting memory [] next None room false on = refl
settles setting memory (oldest ∷ younger) next None room true on = refl
settles setting memory (oldest ∷ younger) next None room false on = refl
settles setting memory pending next (Some store) room true on = absurd (on room refl)
settles setting memory pending next (Some store) room false on = refl

waits_not : (setting : Setting) (pending : Pending) (store : Option Store) → HasRoom setting pending store →
    needs_room setting pending store ≡ false
waits_not setting pending None room = refl
waits_not setting pending (Some store) room = ap not room

module _ (setting : Setting) (state : State) (doomed : Doomed) (number : ℕ) (regs next : Regs) (store : Option Store)
    (quiet : IsQuiet setting state number regs next store) (free : doomed number ≡ None)
    (exists : nat_lt number state.count ≡ true) where
  abbrev pending : Pending
  pending = state.pending number

  abbrev seen : List ℕ
  seen = seen_by state number

  result : outside_at setting regs seen ≡ Goes next store
  result = ap (λ places. setting.outside regs (setting.value_of regs (bytes_at seen places))) quiet.loads ∙ quiet.goes

  outside_is : store_outside setting seen (Closed regs) Plain ≡ store
  outside_is =
      ap (λ t. if t then None else store_of (outside_at setting regs seen)) quiet.passes ∙ ap store_of result

  buffered_is : store_buffered setting seen (Closed regs) Plain
      ≡ (if nat_eq setting.store_buffer 0 then None else store)
  buffered_is = ap (λ w. if nat_eq setting.store_buffer 0 then None else w) outside_is

  change_is : after_step_of setting seen (Closed regs) Plain ≡ Some (memory_after seen (stores_of store), Closed next)
  change_is =
      ap (λ t. if t then None else after_plain seen (outside_at setting regs seen)) quiet.whole
      ∙ ap (after_plain seen) result

  goes_on : (q : Pending) → HasRoom setting q store → must_wait setting seen q (Closed regs) Plain ≡ false
  goes_on [] room = refl
  goes_on (oldest ∷ younger) room =
      ap (λ t. t || needs_room setting (oldest ∷ younger) (store_outside setting seen (Closed regs) Plain)) quiet.passes
      ∙ ap (needs_room setting (oldest ∷ younger)) outside_is
      ∙ waits_not setting (oldest ∷ younger) store room

  after_is : after_step setting state.memory pending (Closed regs) Plain
      ≡ Some (state.memory, (pushed pending store, Closed next))
  after_is =
      ap (λ t. if t then None else option_map (settled state.memory pending (store_buffered setting seen (Closed regs)
      Plain)) (after_step_of setting seen (Closed regs) Plain)) (goes_on pending quiet.room)
      ∙ ap (λ w. option_map (settled state.memory pending w) (after_step_of setting seen (Closed regs) Plain))
      buffered_is
      ∙ ap (option_map (settled state.memory pending (if nat_eq setting.store_buffer 0 then None else store))) change_is
      ∙ ap Some
      (settles setting state.memory pending next store quiet.room (nat_eq setting.store_buffer 0)
      (on setting.store_buffer pending))

  -- the step
  pub moves : step setting state number Plain ≡ Some (moved state number next store)
  moves =
      ap (λ t. if t then option_map (state_with state number)
      (after_step setting state.memory pending (state.cores number) Plain) else None) exists
      ∙ ap (λ core. option_map (state_with state number) (after_step setting state.memory pending core Plain))
      quiet.closed
      ∙ ap (option_map (state_with state number)) after_is

  -- which is owed
  owed_plain : owed_outcome setting seen (Closed regs) None ≡ Plain
  owed_plain = ap (λ t. owed_outside t (outside_at setting regs seen)) quiet.whole ∙ ap (owed_outside false) result

  owed_is : owed_with_pending setting state.memory pending (Closed regs) None ≡ Plain
  owed_is =
      ap (λ outcome. if must_wait setting seen pending (Closed regs) outcome then Drained else outcome) owed_plain
      ∙ ap (λ t. if t then Drained else Plain) (goes_on pending quiet.room)

  pub owes : owed_under None setting state.memory pending (state.cores number) (doomed number) ≡ Plain
  owes =
      ap (λ core. owed_under None setting state.memory pending core (doomed number)) quiet.closed
      ∙ ap (owed_under None setting state.memory pending (Closed regs)) free
      ∙ owed_is

  -- and hits nobody
  stores_none : (w : Option Store) → (w ≡ None → store ≡ None) →
      addresses_at_once w (addresses_stored_by setting seen (Closed regs) Plain) ≡ []
  stores_none (Some w) off = refl
  stores_none None off = ap addresses_stored_outside result ∙ ap (λ w. stored_addresses (stores_of w)) (off refl)

  none_left : (off : Bool) (w : Option Store) → (off ≡ true → w ≡ None) → (if off then None else w) ≡ None → w ≡ None
  none_left true w none is = none refl
  none_left false w none is = is

  none_off : (w : Option Store) → HasRoom setting pending w → nat_eq setting.store_buffer 0 ≡ true → w ≡ None
  none_off None room off = refl
  none_off (Some w) room off = absurd (on setting.store_buffer pending room off)

  writes_none : addresses_written_by setting state.memory pending (Closed regs) Plain ≡ []
  writes_none =
      ap (λ w. addresses_at_once w (addresses_stored_by setting seen (Closed regs) Plain)) buffered_is
      ∙ stores_none (if nat_eq setting.store_buffer 0 then None else store)
      (none_left (nat_eq setting.store_buffer 0) store (none_off store quiet.room))

  pub hits_nobody : (other : ℕ) → doomed_after setting state doomed number Plain other ≡ doomed other
  hits_nobody other =
      (elim (nat_eq other number) as (λ t. nat_eq other number ≡ t → (if t then doomed number
      else doom_after_other setting (seen_by state other) (addresses_loaded_by setting seen (state.cores number) Plain)
      (addresses_written_by setting state.memory pending (state.cores number) Plain) (state.cores other) (doomed other))
      ≡ doomed other) [
        | true ↦ λ same. ap doomed (sym (eqb-true other number same))
        | false ↦ λ apart.
            ap (λ core. doom_after_other setting (seen_by state other) (addresses_loaded_by setting seen core Plain)
            (addresses_written_by setting state.memory pending core Plain) (state.cores other) (doomed other))
            quiet.closed
            ∙ ap (λ places. doom_after_other setting (seen_by state other) places (addresses_written_by setting
            state.memory pending (Closed regs) Plain) (state.cores other) (doomed other)) quiet.loads
            ∙ ap (λ places. doom_after_other setting (seen_by state other) [] places (state.cores other) (doomed other))
            writes_none
            ∙ none_hit setting (seen_by state other) (state.cores other) (doomed other)
      ]) refl

-- ---- steps of other cores

swapped : {A : Type 0} → (a b : Bool) → (a ≡ true → b ≡ true → ⊥) → (x y z : A) →
    (if a then x else (if b then y else z)) ≡ (if b then y else (if a then x else z))
swapped true true both x y z = absurd (both refl refl)
swapped true false both x y z = refl
swapped false b both x y z = refl

not_both : (other one number : ℕ) → nat_eq one number ≡ false → nat_eq other one ≡ true → nat_eq other number ≡ true → ⊥
not_both other one number apart is_one is_number =
    true≢false (sym (eq-eqb one number (sym (eqb-true other one is_one) ∙ eqb-true other number is_number)) ∙ apart)

turned : (one number : ℕ) → nat_eq one number ≡ false → nat_eq number one ≡ false
turned one number apart =
    (elim (nat_eq number one) as (λ t. nat_eq number one ≡ t → t ≡ false) [
      | true ↦ λ same. absurd (true≢false (sym (eq-eqb one number (sym (eqb-true number one same))) ∙ apart))
      | false ↦ λ _. refl
    ]) refl

itself : (number : ℕ) → nat_eq number number ≡ true
itself number = eq-eqb number number refl

module _ (state : State) (number one : ℕ) (next : Regs) (store : Option Store) (apart : nat_eq one number ≡ false) where
  abbrev there : State
  there = moved state number next store

  pending_there : there.pending one ≡ state.pending one
  pending_there = ap (λ t. if t then pushed (state.pending number) store else state.pending one) apart

  core_there : there.cores one ≡ state.cores one
  core_there = ap (λ t. if t then Closed next else state.cores one) apart

  with_moved : (change : Next) → state_with there one change ≡ moved (state_with state one change) number next store
  with_moved change = λ i. record {
    memory = change.0;
    count = state.count;
    cores = λ other. swapped (nat_eq other one) (nat_eq other number) (not_both other one number apart) change.1.1
        (Closed next) (state.cores other) i;
    pending = λ other.
        (swapped (nat_eq other one) (nat_eq other number) (not_both other one number apart) change.1.0
        (pushed (state.pending number) store) (state.pending other)
        ∙ ap (λ t. if nat_eq other number then pushed (if t then change.1.0 else state.pending number) store
        else (if nat_eq other one then change.1.0 else state.pending other)) (sym (turned one number apart))) i;
  }

  through : (changed : Option Next) →
      option_map (state_with there one) changed
      ≡ option_map (λ after. moved after number next store) (option_map (state_with state one) changed)
  through None = refl
  through (Some change) = ap Some (with_moved change)

  -- it steps as it did
  pub steps_alike : (setting : Setting) (outcome : Outcome) →
      step setting there one outcome
      ≡ option_map (λ after. moved after number next store) (step setting state one outcome)
  steps_alike setting outcome =
      ap (λ q. if nat_lt one state.count
      then option_map (state_with there one) (after_step setting state.memory q (there.cores one) outcome) else None)
      pending_there
      ∙ ap (λ core. if nat_lt one state.count then option_map (state_with there one)
      (after_step setting state.memory (state.pending one) core outcome) else None) core_there
      ∙ (elim (nat_lt one state.count) as (λ t. (if t then option_map (state_with there one)
      (after_step setting state.memory (state.pending one) (state.cores one) outcome) else None)
      ≡ option_map (λ after. moved after number next store) (if t then option_map (state_with state one)
      (after_step setting state.memory (state.pending one) (state.cores one) outcome) else None)) [
        | true ↦ through (after_step setting state.memory (state.pending one) (state.cores one) outcome)
        | false ↦ refl
      ])

  -- the same is owed to it
  pub owes_alike : (event : Option Event) (setting : Setting) (doom : Option ℕ) →
      owed_under event setting there.memory (there.pending one) (there.cores one) doom
      ≡ owed_under event setting state.memory (state.pending one) (state.cores one) doom
  owes_alike event setting doom =
      ap (λ q. owed_under event setting state.memory q (there.cores one) doom) pending_there
      ∙ ap (λ core. owed_under event setting state.memory (state.pending one) core doom) core_there

  -- and it hits the same cores
  pub dooms_alike : (setting : Setting) (regs : Regs) (doomed : Doomed) (outcome : Outcome)
      → state.cores number ≡ Closed regs →
      (other : ℕ)
      → doomed_after setting there doomed one outcome other ≡ doomed_after setting state doomed one outcome other
  dooms_alike setting regs doomed outcome closed other =
      ap (λ q. if nat_eq other one then doom_after_own outcome (doomed one) else doom_after_other setting
      (seen_by there other) (addresses_loaded_by setting (seen_memory state.memory q) (there.cores one) outcome)
      (addresses_written_by setting state.memory q (there.cores one) outcome) (there.cores other) (doomed other))
      pending_there
      ∙ ap (λ core. if nat_eq other one then doom_after_own outcome (doomed one)
      else doom_after_other setting (seen_by there other) (addresses_loaded_by setting (seen_by state one) core outcome)
      (addresses_written_by setting state.memory (state.pending one) core outcome) (there.cores other) (doomed other))
      core_there
      ∙ ap (λ doom. if nat_eq other one then doom_after_own outcome (doomed one) else doom)
      (hit (addresses_loaded_by setting (seen_by state one) (state.cores one) outcome)
      (addresses_written_by setting state.memory (state.pending one) (state.cores one) outcome))
    where
      hit : (loads stores : List ℕ)
          → doom_after_other setting (seen_by there other) loads stores (there.cores other) (doomed other)
          ≡ doom_after_other setting (seen_by state other) loads stores (state.cores other) (doomed other)
      hit loads stores =
          (elim (nat_eq other number) as (λ t. nat_eq other number ≡ t → doom_after_other setting
          (seen_memory state.memory (if t then pushed (state.pending number) store else state.pending other)) loads
          stores (if t then Closed next else state.cores other) (doomed other)
          ≡ doom_after_other setting (seen_by state other) loads stores (state.cores other) (doomed other)) [
            | true ↦ λ same. sym (ap (λ core. doom_after_other setting (seen_by state other) loads stores core
                (doomed other)) (ap state.cores (eqb-true other number same) ∙ closed))
            | false ↦ λ _. refl
          ]) refl

  -- the step is as quiet behind it
  pub quiet_behind : (setting : Setting) (regs : Regs) (change : Next) → IsQuiet setting state number regs next store →
      IsQuiet setting (state_with state one change) number regs next store
  quiet_behind setting regs change quiet = record {
    closed = ap (λ t. if t then change.1.1 else state.cores number) (turned one number apart) ∙ quiet.closed;
    whole = quiet.whole;
    passes = quiet.passes;
    loads = quiet.loads;
    goes = quiet.goes;
    room = subst (λ t. HasRoom setting (if t then change.1.0 else state.pending number) store)
        (sym (turned one number apart)) quiet.room;
  }

-- a closed core is not doomed by others
pub free_behind : (setting : Setting) (state : State) (doomed : Doomed) (number one : ℕ) (regs : Regs)
    (outcome : Outcome) →
    nat_eq one number ≡ false → state.cores number ≡ Closed regs → doomed number ≡ None
    → doomed_after setting state doomed one outcome number ≡ None
free_behind setting state doomed number one regs outcome apart closed free =
    let loads : List ℕ = addresses_loaded_by setting (seen_by state one) (state.cores one) outcome in
    let stores : List ℕ = addresses_written_by setting state.memory (state.pending one) (state.cores one) outcome in
    ap (λ t. if t then doom_after_own outcome (doomed one) else doom_after_other setting (seen_by state number) loads
    stores (state.cores number) (doomed number)) (turned one number apart)
    ∙ ap (λ core. doom_after_other setting (seen_by state number) loads stores core (doomed number)) closed
    ∙ free

-- ---- its own drains

module _ (state : State) (number : ℕ) (next : Regs) (store : Option Store) (oldest : Store) (younger : Pending)
    (is : state.pending number ≡ oldest ∷ younger) where
  abbrev here : State
  here = moved state number next store

  abbrev drained : State
  drained = state_with state number (with_store state.memory oldest, (younger, state.cores number))

  pushed_front : (store : Option Store) → pushed (oldest ∷ younger) store ≡ oldest ∷ pushed younger store
  pushed_front None = refl
  pushed_front (Some store) = refl

  pending_here : here.pending number ≡ oldest ∷ pushed younger store
  pending_here =
      ap (λ t. if t then pushed (state.pending number) store else state.pending number) (itself number)
      ∙ ap (λ q. pushed q store) is
      ∙ pushed_front store

  core_here : here.cores number ≡ Closed next
  core_here = ap (λ t. if t then Closed next else state.cores number) (itself number)

  merged : {A : Type 0} → (t : Bool) → (x y z : A) → (if t then x else (if t then y else z)) ≡ (if t then x else z)
  merged true x y z = refl
  merged false x y z = refl

  with_drained : state_with here number (with_store state.memory oldest, (pushed younger store, Closed next))
      ≡ moved drained number next store
  with_drained = λ i. record {
    memory = with_store state.memory oldest;
    count = state.count;
    cores = λ other. (merged (nat_eq other number) (Closed next) (Closed next) (state.cores other)
        ∙ sym (merged (nat_eq other number) (Closed next) (state.cores number) (state.cores other))) i;
    pending = λ other.
        (merged (nat_eq other number) (pushed younger store) (pushed (state.pending number) store) (state.pending other)
        ∙ sym (merged (nat_eq other number) (pushed younger store) younger (state.pending other))
        ∙ ap (λ t. if nat_eq other number then pushed (if t then younger else state.pending number) store
        else (if nat_eq other number then younger else state.pending other)) (sym (itself number))) i;
  }

  module _ (setting : Setting) (exists : nat_lt number state.count ≡ true) where
    pub drains_first : step setting state number Drained ≡ Some drained
    drains_first =
        ap (λ t. if t then option_map (state_with state number)
        (after_step setting state.memory (state.pending number) (state.cores number) Drained) else None) exists
        ∙ ap (λ q. option_map (state_with state number) (after_drain state.memory q (state.cores number))) is

    pub drains_behind : step setting here number Drained ≡ Some (moved drained number next store)
    drains_behind =
        ap (λ t. if t then option_map (state_with here number)
        (after_step setting state.memory (here.pending number) (here.cores number) Drained) else None) exists
        ∙ ap (λ q. option_map (state_with here number) (after_drain state.memory q (here.cores number))) pending_here
        ∙ ap (λ core. Some (state_with here number (with_store state.memory oldest, (pushed younger store, core))))
        core_here
        ∙ ap Some with_drained

  shorter : (most : ℕ) (store : Option Store) (setting : Setting) → HasRoom setting (oldest ∷ younger) store
      → HasRoom setting younger store
  shorter most None setting room = tt
  shorter most (Some store) setting room =
      let below : length (oldest ∷ younger) < setting.store_buffer =
      ltb-true (length (oldest ∷ younger)) setting.store_buffer room in
      lt-ltb (length younger) setting.store_buffer (omega arith)

  pub quiet_drained : (setting : Setting) (regs : Regs) → IsQuiet setting state number regs next store
      → IsQuiet setting drained number regs next store
  quiet_drained setting regs quiet = record {
    closed = ap (λ t. if t then state.cores number else state.cores number) (itself number) ∙ quiet.closed;
    whole = quiet.whole;
    passes = quiet.passes;
    loads = quiet.loads;
    goes = quiet.goes;
    room = subst (λ t. HasRoom setting (if t then younger else state.pending number) store) (sym (itself number))
        (shorter 0 store setting (subst (λ q. HasRoom setting q store) is quiet.room));
  }

  -- a drain hits the same cores
  pub dooms_drained : (setting : Setting) (regs : Regs) (doomed : Doomed)
      → state.cores number ≡ Closed regs → (other : ℕ) →
      doomed_after setting here doomed number Drained other ≡ doomed_after setting state doomed number Drained other
  dooms_drained setting regs doomed closed other =
      ap (λ core. if nat_eq other number then doomed number else doom_after_other setting (seen_by here other)
      (addresses_loaded_by setting (seen_by here number) core Drained)
      (addresses_written_by setting state.memory (here.pending number) core Drained) (here.cores other) (doomed other))
      core_here
      ∙ ap (λ q. if nat_eq other number then doomed number else doom_after_other setting (seen_by here other) []
      (addresses_written_by setting state.memory q (Closed next) Drained) (here.cores other) (doomed other))
      pending_here
      ∙ elsewhere
      ∙ sym (ap (λ q. if nat_eq other number then doomed number else doom_after_other setting (seen_by state other) []
      (addresses_written_by setting state.memory q (Closed regs) Drained) (state.cores other) (doomed other)) is)
      ∙ sym (ap (λ core. if nat_eq other number then doomed number else doom_after_other setting (seen_by state other)
      (addresses_loaded_by setting (seen_by state number) core Drained)
      (addresses_written_by setting state.memory (state.pending number) core Drained) (state.cores other)
      (doomed other)) closed)
    where
      elsewhere : (if nat_eq other number then doomed number else doom_after_other setting (seen_by here other) []
          (stored_addresses (stores_of (Some oldest))) (here.cores other) (doomed other))
          ≡ (if nat_eq other number then doomed number else doom_after_other setting (seen_by state other) []
          (stored_addresses (stores_of (Some oldest))) (state.cores other) (doomed other))
      elsewhere =
          elim (nat_eq other number) as (λ t. (if t then doomed number else doom_after_other setting
          (seen_memory state.memory (if t then pushed (state.pending number) store else state.pending other)) []
          (stored_addresses (stores_of (Some oldest))) (if t then Closed next else state.cores other) (doomed other))
          ≡ (if t then doomed number else doom_after_other setting (seen_by state other) []
          (stored_addresses (stores_of (Some oldest))) (state.cores other) (doomed other))) [
            | true ↦ refl
            | false ↦ refl
          ]

  pub free_drained : (setting : Setting) (doomed : Doomed) → doomed number ≡ None
      → doomed_after setting state doomed number Drained number ≡ None
  free_drained setting doomed free =
      ap (λ t. if t then doomed number else doom_after_other setting (seen_by state number)
      (addresses_loaded_by setting (seen_by state number) (state.cores number) Drained)
      (addresses_written_by setting state.memory (state.pending number) (state.cores number) Drained)
      (state.cores number) (doomed number)) (itself number)
      ∙ free

-- ---- schedules

-- where the picks lead, each with the outcome that is owed; nothing where one is not allowed
abbrev pub End : Type 0
End = State × Doomed

abbrev pub owed_to : Setting → State → Doomed → Pick → Outcome
owed_to setting state doomed pick =
    owed_under pick.event setting state.memory (state.pending pick.core) (state.cores pick.core) (doomed pick.core)

abbrev pub leads : Setting → State → Doomed → List Pick → Option End
leads setting state doomed [] = Some (state, doomed)
leads setting state doomed (pick ∷ picks) =
    let outcome : Outcome = owed_to setting state doomed pick in
    option_and_then (λ next. leads setting next (doomed_after setting state doomed pick.core outcome) picks)
    (step setting state pick.core outcome)

abbrev pub its_step : ℕ → Pick
its_step number = record { core = number; event = None }

-- the same end, by a schedule of the same length that begins with the quiet step
pub record BeginsQuietly (setting : Setting) (state : State) (doomed : Doomed) (number : ℕ)
    (picks : List Pick) (end : End)
    : Type 0 where
  pub rest : List Pick
  pub as_long : length picks ≡ suc (length rest)
  pub same_end : leads setting state doomed (its_step number ∷ rest) ≡ Some end

-- the core of this number has stopped
abbrev pub HasStopped : End → ℕ → Type 0
HasStopped end number = (regs : Regs) × (stop : Stop) × (end.0.cores number ≡ Halted regs stop)

-- what the quiet step leads to
by_quiet : (setting : Setting) (state : State) (doomed : Doomed) (number : ℕ) (regs next : Regs)
    (store : Option Store) →
    IsQuiet setting state number regs next store → doomed number ≡ None → nat_lt number state.count ≡ true
    → (picks : List Pick) →
    leads setting state doomed (its_step number ∷ picks) ≡ leads setting (moved state number next store) doomed picks
by_quiet setting state doomed number regs next store quiet free exists picks =
    ap
    (λ outcome. option_and_then (λ after. leads setting after (doomed_after setting state doomed number outcome) picks)
    (step setting state number outcome)) (owes setting state doomed number regs next store quiet free exists)
    ∙ ap (option_and_then (λ after. leads setting after (doomed_after setting state doomed number Plain) picks))
    (moves setting state doomed number regs next store quiet free exists)
    ∙ ap (λ (dooms : Doomed). leads setting (moved state number next store) dooms picks)
    (λ i other. hits_nobody setting state doomed number regs next store quiet free exists other i)

-- a state that a step leads to differs in memory and in the core that steps
stepped_from : (setting : Setting) (state after : State) (one : ℕ) (outcome : Outcome)
    → step setting state one outcome ≡ Some after →
    (change : Next) × (after ≡ state_with state one change)
stepped_from setting state after one outcome is =
    (elim (nat_lt one state.count) as (λ t. (if t then option_map (state_with state one)
    (after_step setting state.memory (state.pending one) (state.cores one) outcome) else None) ≡ Some after
    → (change : Next) × (after ≡ state_with state one change)) [
      | true ↦ from_change (after_step setting state.memory (state.pending one) (state.cores one) outcome)
      | false ↦ λ e. cc
    ]) is
  where
    from_change : (changed : Option Next) → option_map (state_with state one) changed ≡ Some after
        → (change : Next) × (after ≡ state_with state one change)
    from_change None e = cc
    from_change (Some change) e = (change, sym (same_Some (state_with state one change) after e))

-- what holds of shorter schedules
abbrev Shorter : Setting → ℕ → List Pick → Type 0
Shorter setting number picks =
    (state : State) (doomed : Doomed) (regs next : Regs) (store : Option Store)
    → IsQuiet setting state number regs next store →
    doomed number ≡ None → nat_lt number state.count ≡ true
    → (end : End) → leads setting state doomed picks ≡ Some end →
    HasStopped end number → BeginsQuietly setting state doomed number picks end

module _ (setting : Setting) (number : ℕ) (picks : List Pick)
    (shorter_ones : Shorter setting number picks) (state : State)
    (doomed : Doomed) (regs next : Regs) (store : Option Store) (quiet : IsQuiet setting state number regs next store)
    (free : doomed number ≡ None) (exists : nat_lt number state.count ≡ true) (end : End)
    (stopped : HasStopped end number) where
  -- the picks after one that has this outcome
  abbrev then_leads : ℕ → Outcome → List Pick → Option End
  then_leads one outcome rest =
      option_and_then (λ after. leads setting after (doomed_after setting state doomed one outcome) rest)
      (step setting state one outcome)

  -- a pick of another core
  by_other : (pick : Pick) → nat_eq pick.core number ≡ false → leads setting state doomed (pick ∷ picks) ≡ Some end →
      BeginsQuietly setting state doomed number (pick ∷ picks) end
  by_other pick apart is =
      let one : ℕ = pick.core in
      let outcome : Outcome = owed_to setting state doomed pick in
      option_and_then_some
      (λ after. leads setting after (doomed_after setting state doomed pick.core (owed_to setting state doomed pick))
      picks) (step setting state pick.core (owed_to setting state doomed pick)) end is (λ after stepped led.
      let from : (change : Next) × (after ≡ state_with state pick.core change) =
      stepped_from setting state after pick.core (owed_to setting state doomed pick) stepped in
      let still : IsQuiet setting after number regs next store =
      subst (λ (s : State). IsQuiet setting s number regs next store) (sym from.1)
      (quiet_behind state number pick.core next store apart setting regs from.0 quiet) in
      let counted : nat_lt number after.count ≡ true = ap (λ (s : State). nat_lt number s.count) from.1 ∙ exists in
      let dooms : Doomed = doomed_after setting state doomed pick.core (owed_to setting state doomed pick) in
      let still_free : doomed_after setting state doomed pick.core (owed_to setting state doomed pick) number ≡ None =
      free_behind setting state doomed number pick.core regs (owed_to setting state doomed pick) apart
      quiet.closed free in
      let found :
      BeginsQuietly setting after (doomed_after setting state doomed pick.core (owed_to setting state doomed pick))
      number picks end =
      shorter_ones after (doomed_after setting state doomed pick.core (owed_to setting state doomed pick)) regs next
      store still still_free counted end led stopped in
      record {
        rest = pick ∷ found.rest;
        as_long = ap suc found.as_long;
        same_end =
            by_quiet setting state doomed number regs next store quiet free exists (pick ∷ found.rest)
            ∙ ap (λ o. option_and_then (λ s. leads setting s (doomed_after setting (moved state number next store)
            doomed pick.core o) found.rest) (step setting (moved state number next store) pick.core o))
            (owes_alike state number pick.core next store apart pick.event setting (doomed pick.core))
            ∙ ap (option_and_then (λ s. leads setting s (doomed_after setting (moved state number next store) doomed
            pick.core (owed_to setting state doomed pick)) found.rest))
            (steps_alike state number pick.core next store apart setting (owed_to setting state doomed pick)
            ∙ ap (option_map (λ s. moved s number next store)) stepped)
            ∙ ap (λ (d : Doomed). leads setting (moved after number next store) d found.rest)
            (λ i other. dooms_alike state number pick.core next store apart setting regs doomed
            (owed_to setting state doomed pick) quiet.closed other i)
            ∙ sym
            (by_quiet setting after (doomed_after setting state doomed pick.core (owed_to setting state doomed pick))
            number regs next store still still_free counted found.rest)
            ∙ found.same_end;
      })

  -- a pick of its own under an event that befalls nothing
  as_own : (event : Option Event) →
      owed_under event setting state.memory (state.pending number) (state.cores number) (doomed number)
      ≡ owed_under None setting state.memory (state.pending number) (state.cores number) (doomed number) →
      leads setting state doomed (record { core = number; event = event } ∷ picks) ≡ Some end →
      BeginsQuietly setting state doomed number (record { core = number; event = event } ∷ picks) end
  as_own event same is = record {
    rest = picks;
    as_long = refl;
    same_end = sym (ap (λ o. then_leads number o picks) same) ∙ is;
  }

  -- a drain of its own
  by_drain : (q : Pending) → state.pending number ≡ q →
      leads setting state doomed (record { core = number; event = Some event.Drain } ∷ picks) ≡ Some end →
      BeginsQuietly setting state doomed number (record { core = number; event = Some event.Drain } ∷ picks) end
  by_drain [] none is =
      as_own (Some event.Drain)
      (ap (λ q. owed_under (Some event.Drain) setting state.memory q (state.cores number) (doomed number)) none
      ∙ sym (ap (λ q. owed_under None setting state.memory q (state.cores number) (doomed number)) none)) is
  by_drain (oldest ∷ younger) some is =
      let after : State = state_with state number (with_store state.memory oldest, (younger, state.cores number)) in
      let owed :
      owed_under (Some event.Drain) setting state.memory (state.pending number) (state.cores number) (doomed number)
      ≡ Drained =
      ap (λ q. owed_under (Some event.Drain) setting state.memory q (state.cores number) (doomed number)) some in
      let led : leads setting after (doomed_after setting state doomed number Drained) picks ≡ Some end =
      sym (ap (option_and_then (λ s. leads setting s (doomed_after setting state doomed number Drained) picks))
      (drains_first state number next store oldest younger some setting exists))
      ∙ sym (ap (λ o. then_leads number o picks) owed) ∙ is in
      let still : IsQuiet setting after number regs next store =
      quiet_drained state number next store oldest younger some setting regs quiet in
      let still_free : doomed_after setting state doomed number Drained number ≡ None =
      free_drained state number next store oldest younger some setting doomed free in
      let found : BeginsQuietly setting after (doomed_after setting state doomed number Drained) number picks end =
      shorter_ones after (doomed_after setting state doomed number Drained) regs next store still still_free exists
      end led stopped in
      let behind :
      owed_under (Some event.Drain) setting state.memory ((moved state number next store).pending number)
      ((moved state number next store).cores number) (doomed number) ≡ Drained =
      ap (λ q. owed_under (Some event.Drain) setting state.memory q ((moved state number next store).cores number)
      (doomed number)) (pending_here state number next store oldest younger some) in
      record {
        rest = record { core = number; event = Some event.Drain } ∷ found.rest;
        as_long = ap suc found.as_long;
        same_end =
            by_quiet setting state doomed number regs next store quiet free exists
            (record { core = number; event = Some event.Drain } ∷ found.rest)
            ∙ ap (λ o. option_and_then (λ s. leads setting s (doomed_after setting (moved state number next store)
            doomed number o) found.rest) (step setting (moved state number next store) number o)) behind
            ∙ ap (option_and_then (λ s. leads setting s
            (doomed_after setting (moved state number next store) doomed number Drained) found.rest))
            (drains_behind state number next store oldest younger some setting exists)
            ∙ ap (λ (d : Doomed). leads setting (moved after number next store) d found.rest)
            (λ i other. dooms_drained state number next store oldest younger some setting regs doomed
            quiet.closed other i)
            ∙ sym (by_quiet setting after (doomed_after setting state doomed number Drained) number regs next store
            still still_free exists found.rest)
            ∙ found.same_end;
      }

  by_own : (event : Option Event)
      → leads setting state doomed (record { core = number; event = event } ∷ picks) ≡ Some end →
      BeginsQuietly setting state doomed number (record { core = number; event = event } ∷ picks) end
  by_own None is = as_own None refl is
  by_own (Some event.Drain) is = by_drain (state.pending number) refl is
  by_own (Some (event.Abort by)) is =
      as_own (Some (event.Abort by))
      (ap (λ core. owed_under (Some (event.Abort by)) setting state.memory (state.pending number) core (doomed number))
      quiet.closed
      ∙ befalls_nothing (state.pending number)
      ∙ sym
      (ap (λ core. owed_under None setting state.memory (state.pending number) core (doomed number)) quiet.closed)) is
    where
      befalls_nothing : (q : Pending)
          → owed_under (Some (event.Abort by)) setting state.memory q (Closed regs) (doomed number)
          ≡ owed_under None setting state.memory q (Closed regs) (doomed number)
      befalls_nothing [] = refl
      befalls_nothing (oldest ∷ younger) = refl

  by_first : (pick : Pick) → leads setting state doomed (pick ∷ picks) ≡ Some end
      → BeginsQuietly setting state doomed number (pick ∷ picks) end
  by_first pick is =
      (elim (nat_eq pick.core number)
      as (λ t. nat_eq pick.core number ≡ t → BeginsQuietly setting state doomed number (pick ∷ picks) end) [
        | true ↦ λ same.
            let its : pick ≡ record { core = number; event = pick.event } =
            λ i. record { core = eqb-true pick.core number same i; event = pick.event } in
            subst (λ (p : Pick). BeginsQuietly setting state doomed number (p ∷ picks) end) (sym its)
            (by_own pick.event (subst (λ (p : Pick). leads setting state doomed (p ∷ picks) ≡ Some end) its is))
        | false ↦ λ apart. by_other pick apart is
      ]) refl

-- A quiet step may be made first, and no other: whatever schedule ends with its core stopped, one of the same length
-- that begins with it has the same end.
pub begins_quietly : (setting : Setting) (number : ℕ) (picks : List Pick) → Shorter setting number picks
begins_quietly setting number [] state doomed regs next store quiet free exists end is stopped =
    let same : (state, doomed) ≡ end = same_Some (state, doomed) end is in
    let never : Closed regs ≡ Halted stopped.0 stopped.1 =
    sym quiet.closed ∙ ap (λ (e : End). e.0.cores number) same ∙ stopped.2 in
    cc
begins_quietly setting number (pick ∷ picks) state doomed regs next store quiet free exists end is stopped =
    by_first setting number picks (begins_quietly setting number picks) state doomed regs next store quiet free exists
    end stopped pick is
