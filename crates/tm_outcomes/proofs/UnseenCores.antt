-- An unseen step of a core is the same on any memory, touches none of it, and is hit by no step of another core, nor
-- are the steps that follow it. Where stores of its core are pending it is the same behind a drain of the oldest.
use Rattle.std.proofs.Common.{◌≡◌, ℕ, Bool, true, false, cond, List, [], ◌∷◌, ◌++◌, Option, Some, None, length, refl}
use Rattle.std.proofs.Common.{◌<◌, arith, sym, ap, ◌∙◌}
use Rattle.std.specs.Prelude.{◌&&◌, ◌||◌, nat_eq, nat_lt, not, option_map, unwrap_or}
use Rattle.std.specs.Ordering.{nat_cmp}
use Rattle.std.specs.FinSet as set
use Rattle.std.proofs.lemmas.Bool.{eq-eqb, false≢true, lt-ltb, ltb-true, true≢false}
use Rattle.ia_regs.specs.declared.Regs.{Regs}
use Rattle.ia_word.specs.Line.{line}
use Rattle.tm_rule.specs.declared.kinds.OutsideResult.{OutsideResult}
use Rattle.tm_rule.specs.declared.kinds.OutsideResult.TheVariants.{Goes, Begins, Stops}
use Rattle.tm_rule.specs.declared.kinds.Stop.{Stop}
use Rattle.tm_model.specs.Access.{Stores, bytes_at, have_line_of, lines_of, memory_after, stored_addresses, stores_of}
use Rattle.tm_model.specs.Conflicts.{addresses_at_once, addresses_loaded_by, addresses_stored_by}
use Rattle.tm_model.specs.Conflicts.{addresses_stored_outside, addresses_written_by, depth_at_hit, doom_after_other}
use Rattle.tm_model.specs.Conflicts.{doom_after_own}
use Rattle.tm_model.specs.Isolated.{Body, first_body, isolated_body}
use Rattle.tm_model.specs.Owed.{outcome_of_event, owed_outcome, owed_outside, owed_under, owed_with_pending, status_at}
use Rattle.tm_model.specs.Types.{Conflict, Store}
use Rattle.tm_model.specs.Setting.{Setting, outside_at, value_at}
use Rattle.tm_model.specs.State.{Closed, Core, Halted, Midway, Opened, Pending, seen_memory}
use Rattle.tm_model.specs.Steps.{after_begin, after_load, after_plain, after_step, after_step_of, after_stop}
use Rattle.tm_model.specs.Steps.{must_wait, needs_none, needs_room, registers_after_abort, settled, stop_number}
use Rattle.tm_model.specs.Steps.{store_buffered, store_of, store_outside}
use Rattle.tm_model.specs.declared.outcome.Event.{Event}
use Rattle.tm_model.specs.declared.outcome.Event.TheVariants as event
use Rattle.tm_model.specs.declared.outcome.Outcome.{Outcome}
use Rattle.tm_model.specs.declared.outcome.Outcome.TheVariants.{Plain, Loaded, Stopped, Begun, Aborted, Drained}
use Rattle.tm_outcomes.specs.Unseen.{are_none, drains, is_unseen}

-- what is pending behind a step of which this store is
abbrev pub pushed : Pending → Option Store → Pending
pushed pending None = pending
pushed pending (Some store) = pending ++ store ∷ []

-- what such a step is, whatever memory is, where it need not wait for what is pending
pub record IsUnseenStep (setting : Setting) (core : Core) (doom : Option ℕ) : Type 0 where
  pub outcome : Outcome
  pub next : Core
  pub store : Option Store  -- which is pending behind it
  pub waits : Pending → Bool
  pub fewer : (oldest : Store) (younger : Pending) → waits (oldest ∷ younger) ≡ false → waits younger ≡ false
  pub must : (memory : List ℕ) (pending : Pending) → must_wait setting memory pending core outcome ≡ waits pending
  pub is_outcome : (memory : List ℕ) → owed_outcome setting memory core doom ≡ outcome
  pub is_owed : (by : Option Event) (memory : List ℕ) (pending : Pending) → drains by pending ≡ false →
      waits pending ≡ false → owed_under by setting memory pending core doom ≡ outcome
  pub is_made : (memory : List ℕ) (pending : Pending) → waits pending ≡ false →
      after_step setting memory pending core outcome ≡ Some (memory, (pushed pending store, next))
  pub loads : (memory : List ℕ) → addresses_loaded_by setting memory core outcome ≡ []
  pub writes : (memory : List ℕ) (pending : Pending) → addresses_written_by setting memory pending core outcome ≡ []
  pub before : (memory loads stores : List ℕ) → doom_after_other setting memory loads stores core doom ≡ doom
  pub after : (memory loads stores : List ℕ) →
      doom_after_other setting memory loads stores next (doom_after_own outcome doom) ≡ doom_after_own outcome doom
  pub still : (memory : List ℕ) (pending : Pending) → waits pending ≡ false →
      is_unseen setting memory pending core doom ≡ true

pub both : (a b : Bool) → (a && b) ≡ true → (a ≡ true) × (b ≡ true)
both true b e = (refl, e)
both false b e = absurd (false≢true e)

neither : (a b : Bool) → (a || b) ≡ false → (a ≡ false) × (b ≡ false)
neither true b e = absurd (true≢false e)
neither false b e = (refl, e)

pub not_true : (t : Bool) → not t ≡ true → t ≡ false
not_true true e = absurd (false≢true e)
not_true false e = refl

not_false : (t : Bool) → not t ≡ false → t ≡ true
not_false true e = refl
not_false false e = absurd (true≢false e)

empty : (addresses : List ℕ) → are_none addresses ≡ true → addresses ≡ []
empty [] e = refl
empty (address ∷ addresses) e = absurd (false≢true e)

no_stores : (stores : Stores) → stored_addresses stores ≡ [] → stores ≡ []
no_stores [] e = refl
no_stores (store ∷ stores) e = absurd (cc)

pub at_once : (store : Option Store) (addresses : List ℕ) → addresses ≡ [] → addresses_at_once store addresses ≡ []
at_once None addresses none = none
at_once (Some store) addresses none = refl

-- ---- with stores pending

-- where these are, a step waits that stores this
abbrev waiting : Setting → Core → Outcome → Option Store → Pending → Bool
waiting setting core outcome store [] = false
waiting setting core outcome store (oldest ∷ younger) =
    needs_none setting core outcome || needs_room setting (oldest ∷ younger) store

more_room : (setting : Setting) (oldest : Store) (younger : Pending) (store : Option Store)
    → needs_room setting (oldest ∷ younger) store ≡ false → needs_room setting younger store ≡ false
more_room setting oldest younger None e = refl
more_room setting oldest younger (Some store) e =
    let below : length (oldest ∷ younger) < setting.store_buffer =
    ltb-true (length (oldest ∷ younger)) setting.store_buffer
    (not_false (nat_lt (length (oldest ∷ younger)) setting.store_buffer) e) in
    ap not (lt-ltb (length younger) setting.store_buffer (omega arith))

fewer_wait : (setting : Setting) (core : Core) (outcome : Outcome) (store : Option Store) (oldest : Store)
    (younger : Pending) → waiting setting core outcome store (oldest ∷ younger) ≡ false
    → waiting setting core outcome store younger ≡ false
fewer_wait setting core outcome store oldest [] e = refl
fewer_wait setting core outcome store oldest (second ∷ younger) e =
    let parts = neither (needs_none setting core outcome) (needs_room setting (oldest ∷ second ∷ younger) store) e in
    ap (λ t. t || needs_room setting (second ∷ younger) store) parts.0
    ∙ more_room setting oldest (second ∷ younger) store parts.1

settles_behind : (memory : List ℕ) (pending : Pending) (store : Option Store) (changed : List ℕ) (next : Core)
    → (store ≡ None → pending ≡ [] → changed ≡ memory)
    → settled memory pending store (changed, next) ≡ (memory, (pushed pending store, next))
settles_behind memory pending (Some store) changed next stays = refl
settles_behind memory [] None changed next stays = ap (λ (m : List ℕ). (m, ([], next))) (stays refl refl)
settles_behind memory (oldest ∷ younger) None changed next stays = refl

-- an event that is no drain of what is pending does not befall such a core
closed_unbefallen : (by : Option Event) (setting : Setting) (memory : List ℕ) (pending : Pending) (regs : Regs)
    → drains by pending ≡ false → outcome_of_event by setting memory pending (Closed regs) None ≡ None
closed_unbefallen None setting memory pending regs e = refl
closed_unbefallen (Some event.Drain) setting memory [] regs e = refl
closed_unbefallen (Some event.Drain) setting memory (oldest ∷ younger) regs e = absurd (true≢false e)
closed_unbefallen (Some (event.Abort by)) setting memory [] regs e = refl
closed_unbefallen (Some (event.Abort by)) setting memory (oldest ∷ younger) regs e = refl

doomed_unbefallen : (by : Option Event) (setting : Setting) (memory : List ℕ) (pending : Pending) (regs : Regs)
    (steps depth : ℕ) → drains by pending ≡ false
    → outcome_of_event by setting memory pending (Opened regs steps) (Some depth) ≡ None
doomed_unbefallen None setting memory pending regs steps depth e = refl
doomed_unbefallen (Some event.Drain) setting memory [] regs steps depth e = refl
doomed_unbefallen (Some event.Drain) setting memory (oldest ∷ younger) regs steps depth e = absurd (true≢false e)
doomed_unbefallen (Some (event.Abort by)) setting memory [] regs steps depth e = refl
doomed_unbefallen (Some (event.Abort by)) setting memory (oldest ∷ younger) regs steps depth e = refl

-- a step that stores this outside of transactions, on any memory
module _ (setting : Setting) (core : Core) (outcome : Outcome) (store : Option Store)
    (stores : (memory : List ℕ) → store_outside setting memory core outcome ≡ store) where
  abbrev kept : Option Store
  kept = cond (nat_eq setting.store_buffer 0) None store

  kept_is : (memory : List ℕ) → store_buffered setting memory core outcome ≡ kept
  kept_is memory = ap (λ (w : Option Store). cond (nat_eq setting.store_buffer 0) None w) (stores memory)

  waits_as : (memory : List ℕ) (pending : Pending)
      → must_wait setting memory pending core outcome ≡ waiting setting core outcome store pending
  waits_as memory [] = refl
  waits_as memory (oldest ∷ younger) =
      ap (λ (w : Option Store). needs_none setting core outcome || needs_room setting (oldest ∷ younger) w)
      (stores memory)

  makes : (memory : List ℕ) (pending : Pending) (next : Core) (changed : List ℕ)
      → waiting setting core outcome store pending ≡ false
      → after_step_of setting (seen_memory memory pending) core outcome ≡ Some (changed, next)
      → (kept ≡ None → pending ≡ [] → changed ≡ memory) →
      cond (must_wait setting (seen_memory memory pending) pending core outcome) None
      (option_map (settled memory pending (store_buffered setting (seen_memory memory pending) core outcome))
      (after_step_of setting (seen_memory memory pending) core outcome))
      ≡ Some (memory, (pushed pending kept, next))
  makes memory pending next changed goes is stays =
      let seen : List ℕ = seen_memory memory pending in
      ap (λ t. cond t None (option_map (settled memory pending (store_buffered setting seen core outcome))
      (after_step_of setting seen core outcome))) (waits_as seen pending ∙ goes)
      ∙ (ap (λ (w : Option Store). option_map (settled memory pending w) (after_step_of setting seen core outcome))
      (kept_is seen)
      ∙ (ap (option_map (settled memory pending kept)) is
      ∙ ap Some (settles_behind memory pending kept changed next stays)))

  owes : (by : Option Event) (memory : List ℕ) (pending : Pending) (doom : Option ℕ)
      → outcome_of_event by setting memory pending core doom ≡ None
      → owed_outcome setting (seen_memory memory pending) core doom ≡ outcome
      → waiting setting core outcome store pending ≡ false
      → owed_under by setting memory pending core doom ≡ outcome
  owes by memory pending doom none is goes =
      let seen : List ℕ = seen_memory memory pending in
      ap (λ (o : Option Outcome). unwrap_or o (owed_with_pending setting memory pending core doom)) none
      ∙ (ap (λ (o : Outcome). cond (must_wait setting seen pending core o) Drained o) is
      ∙ ap (λ t. cond t Drained outcome) (waits_as seen pending ∙ goes))

-- nothing lies on no line
on_no_line : (addresses : List ℕ) → have_line_of (lines_of []) addresses ≡ false
on_no_line [] = refl
on_no_line (address ∷ addresses) =
    ap (λ t. t || have_line_of (lines_of []) addresses) (set.contains-empty nat_cmp (line address))
    ∙ on_no_line addresses

-- a body that has touched nothing is not hit
fresh : (loads stores : List ℕ) (regs : Regs) (touched : List ℕ) → touched ≡ [] →
    depth_at_hit loads stores (Some (record { regs = regs; depth = 1; stores = []; loads = touched })) ≡ None
fresh loads stores regs touched none =
    ap (λ (l : List ℕ). depth_at_hit loads stores (Some (record { regs = regs; depth = 1; stores = []; loads = l })))
    none
    ∙ (ap (λ t. cond (t || (t || have_line_of (lines_of []) loads)) (Some 1) None) (on_no_line stores)
    ∙ ap (λ t. cond t (Some 1) None) (on_no_line loads))

-- ---- outside of transactions

module _ (setting : Setting) (regs : Regs) (loads_none : setting.load_of regs ≡ []) where
  abbrev at_none : OutsideResult
  at_none = setting.outside regs (setting.value_of regs [])

  value_is : (memory : List ℕ) → value_at setting regs memory ≡ setting.value_of regs []
  value_is memory = ap (λ (l : List ℕ). setting.value_of regs (bytes_at memory l)) loads_none

  outside_is : (memory : List ℕ) → outside_at setting regs memory ≡ at_none
  outside_is memory = ap (λ v. setting.outside regs v) (value_is memory)

  owed_closed : (memory : List ℕ)
      → owed_outcome setting memory (Closed regs) None ≡ owed_outside (setting.takes_two_steps regs) at_none
  owed_closed memory = ap (owed_outside (setting.takes_two_steps regs)) (outside_is memory)

  -- the instruction stops
  stops : (stop : Stop) → at_none ≡ Stops stop → (memory : List ℕ)
      → after_stop memory regs stop (outside_at setting regs memory) ≡ Some (memory, Halted regs stop)
  stops stop is memory =
      ap (after_stop memory regs stop) (outside_is memory ∙ is)
      ∙ ap (λ t. cond t (Some (memory, Halted regs stop)) None) (eq-eqb (stop_number stop) (stop_number stop) refl)

  begins : (next : Regs) → at_none ≡ Begins next
      → (memory : List ℕ) → after_begin memory regs (outside_at setting regs memory) ≡ Some (memory, Opened regs 1)
  begins next is memory = ap (after_begin memory regs) (outside_is memory ∙ is)

  begun_after : (next : Regs) → at_none ≡ Begins next → (memory loads stores : List ℕ) →
      doom_after_other setting memory loads stores (Opened regs 1) None ≡ None
  begun_after next is memory loads stores =
      ap (λ (r : OutsideResult). depth_at_hit loads stores (first_body (setting.load_of regs) r))
      (outside_is memory ∙ is)
      ∙ fresh loads stores next (setting.load_of regs) loads_none

  -- what it comes to, stores and leaves
  closed_step : (outcome : Outcome) (next : Core) (store : Option Store) →
      owed_outside (setting.takes_two_steps regs) at_none ≡ outcome →
      ((memory : List ℕ) → store_outside setting memory (Closed regs) outcome ≡ store) →
      ((memory : List ℕ) (pending : Pending) → waiting setting (Closed regs) outcome store pending ≡ false →
      after_step setting memory pending (Closed regs) outcome
      ≡ Some (memory, (pushed pending (cond (nat_eq setting.store_buffer 0) None store), next))) →
      ((memory : List ℕ) → addresses_loaded_by setting memory (Closed regs) outcome ≡ []) →
      ((memory : List ℕ) (pending : Pending) → addresses_written_by setting memory pending (Closed regs) outcome ≡ [])
      →
      ((memory loads stores : List ℕ) → doom_after_other setting memory loads stores next (doom_after_own outcome None)
      ≡ doom_after_own outcome None) →
      IsUnseenStep setting (Closed regs) None
  closed_step outcome next store is stores made loads writes after = record {
    outcome = outcome;
    next = next;
    store = cond (nat_eq setting.store_buffer 0) None store;
    waits = waiting setting (Closed regs) outcome store;
    fewer = fewer_wait setting (Closed regs) outcome store;
    must = waits_as setting (Closed regs) outcome store stores;
    is_outcome = λ memory. owed_closed memory ∙ is;
    is_owed = λ by memory pending apart goes.
        owes setting (Closed regs) outcome store stores by memory pending None
        (closed_unbefallen by setting memory pending regs apart) (owed_closed (seen_memory memory pending) ∙ is) goes;
    is_made = made;
    loads = loads;
    writes = writes;
    before = λ memory loads stores. refl;
    after = after;
    still = λ memory pending goes.
        let seen : List ℕ = seen_memory memory pending in
        let owed : Outcome = owed_outcome setting seen (Closed regs) None in
        ap (λ (l : List ℕ). are_none l && (not (must_wait setting seen pending (Closed regs) owed)
        && are_none (addresses_written_by setting memory pending (Closed regs) owed))) loads_none
        ∙ (ap (λ (o : Outcome). not (must_wait setting seen pending (Closed regs) o)
        && are_none (addresses_written_by setting memory pending (Closed regs) o)) (owed_closed seen ∙ is)
        ∙ (ap (λ t. not t && are_none (addresses_written_by setting memory pending (Closed regs) outcome))
        (waits_as setting (Closed regs) outcome store stores seen pending ∙ goes)
        ∙ ap are_none (writes memory pending)));
  }

  -- of one that goes on in one step
  module _ (next : Regs) (store : Option Store) (is_two : setting.takes_two_steps regs ≡ false)
      (is : at_none ≡ Goes next store) where
    abbrev made : Option Store
    made = cond (setting.waits regs) None store

    abbrev pends : Option Store
    pends = cond (nat_eq setting.store_buffer 0) None made

    makes_it : (memory : List ℕ) → store_outside setting memory (Closed regs) Plain ≡ made
    makes_it memory = ap (λ (r : OutsideResult). cond (setting.waits regs) None (store_of r)) (outside_is memory ∙ is)

    changes : (memory : List ℕ) → after_step_of setting memory (Closed regs) Plain
        ≡ Some (memory_after memory (stores_of store), Closed next)
    changes memory =
        ap (λ t. cond t None (after_plain memory (outside_at setting regs memory))) is_two
        ∙ ap (after_plain memory) (outside_is memory ∙ is)

    written : (memory : List ℕ)
        → addresses_at_once (store_buffered setting memory (Closed regs) Plain)
        (addresses_stored_by setting memory (Closed regs) Plain)
        ≡ addresses_at_once pends (stored_addresses (stores_of store))
    written memory =
        ap (λ (w : Option Store). addresses_at_once w (addresses_stored_by setting memory (Closed regs) Plain))
        (kept_is setting (Closed regs) Plain made makes_it memory)
        ∙ ap (λ (r : OutsideResult). addresses_at_once pends (addresses_stored_outside r)) (outside_is memory ∙ is)

    -- where nothing of it is in memory at once
    plain_step : addresses_at_once pends (stored_addresses (stores_of store)) ≡ []
        → IsUnseenStep setting (Closed regs) None
    plain_step none =
        closed_step Plain (Closed next) made
        (ap (owed_outside (setting.takes_two_steps regs)) is ∙ ap (λ t. owed_outside t (Goes next store)) is_two)
        makes_it
        (λ memory pending goes.
        makes setting (Closed regs) Plain made makes_it memory pending (Closed next)
        (memory_after (seen_memory memory pending) (stores_of store)) goes (changes (seen_memory memory pending))
        (λ unkept free. ap (memory_after (seen_memory memory pending))
        (no_stores (stores_of store)
        (ap (λ (w : Option Store). addresses_at_once w (stored_addresses (stores_of store))) (sym unkept) ∙ none))
        ∙ ap (seen_memory memory) free))
        (λ memory. loads_none)
        (λ memory pending. written (seen_memory memory pending) ∙ none)
        (λ memory loads stores. refl)

  by_result : (two : Bool) (result : OutsideResult) → setting.takes_two_steps regs ≡ two → at_none ≡ result →
      (memory : List ℕ) (pending : Pending)
      → addresses_written_by setting memory pending (Closed regs) (owed_outside two result) ≡ [] →
      IsUnseenStep setting (Closed regs) None
  by_result two (Stops stop) is_two is memory pending none =
      closed_step (Stopped stop) (Halted regs stop) None (ap (owed_outside (setting.takes_two_steps regs)) is)
      (λ memory. refl)
      (λ memory pending goes.
      makes setting (Closed regs) (Stopped stop) None (λ memory. refl) memory pending (Halted regs stop)
      (seen_memory memory pending) goes (stops stop is (seen_memory memory pending))
      (λ unkept free. ap (seen_memory memory) free))
      (λ memory. refl)
      (λ memory pending.
      at_once (store_buffered setting (seen_memory memory pending) (Closed regs) (Stopped stop)) [] refl)
      (λ memory loads stores. refl)
  by_result two (Begins next) is_two is memory pending none =
      closed_step Begun (Opened regs 1) None (ap (owed_outside (setting.takes_two_steps regs)) is) (λ memory. refl)
      (λ memory pending goes.
      makes setting (Closed regs) Begun None (λ memory. refl) memory pending (Opened regs 1)
      (seen_memory memory pending) goes (begins next is (seen_memory memory pending))
      (λ unkept free. ap (seen_memory memory) free))
      (λ memory. refl)
      (λ memory pending. at_once (store_buffered setting (seen_memory memory pending) (Closed regs) Begun) [] refl)
      (begun_after next is)
  by_result true (Goes next store) is_two is memory pending none =
      closed_step Loaded (Midway regs (setting.value_of regs [])) None
      (ap (owed_outside (setting.takes_two_steps regs)) is ∙ ap (λ t. owed_outside t (Goes next store)) is_two)
      (λ memory. refl)
      (λ memory pending goes.
      let seen : List ℕ = seen_memory memory pending in
      makes setting (Closed regs) Loaded None (λ memory. refl) memory pending (Midway regs (setting.value_of regs []))
      seen goes
      (ap (λ t. cond t (after_load seen regs (value_at setting regs seen) (outside_at setting regs seen)) None) is_two
      ∙ (ap (after_load seen regs (value_at setting regs seen)) (outside_is seen ∙ is)
      ∙ ap (λ v. Some (seen, Midway regs v)) (value_is seen)))
      (λ unkept free. ap (seen_memory memory) free))
      (λ memory. loads_none)
      (λ memory pending. at_once (store_buffered setting (seen_memory memory pending) (Closed regs) Loaded) [] refl)
      (λ memory loads stores. refl)
  by_result false (Goes next store) is_two is memory pending none =
      plain_step next store is_two is (sym (written next store is_two is (seen_memory memory pending)) ∙ none)

  closed : (memory : List ℕ) (pending : Pending)
      → are_none (addresses_written_by setting memory pending (Closed regs)
      (owed_outcome setting (seen_memory memory pending) (Closed regs) None)) ≡ true →
      IsUnseenStep setting (Closed regs) None
  closed memory pending none =
      by_result (setting.takes_two_steps regs) at_none refl refl memory pending
      (ap (addresses_written_by setting memory pending (Closed regs)) (sym (owed_closed (seen_memory memory pending)))
      ∙ empty _ none)

-- ---- the abort of a doomed core

waits_never : (setting : Setting) (regs : Regs) (steps status : ℕ) (pending : Pending)
    → waiting setting (Opened regs steps) (Aborted status) None pending ≡ false
waits_never setting regs steps status [] = refl
waits_never setting regs steps status (oldest ∷ younger) = refl

doomed : (setting : Setting) (regs : Regs) (steps depth : ℕ) → IsUnseenStep setting (Opened regs steps) (Some depth)
doomed setting regs steps depth =
    let core : Core = Opened regs steps in
    let outcome : Outcome = Aborted (status_at Conflict depth) in
    let next : Core = Closed (registers_after_abort setting regs (status_at Conflict depth)) in
    record {
      outcome = outcome;
      next = next;
      store = cond (nat_eq setting.store_buffer 0) None None;
      waits = waiting setting core outcome None;
      fewer = fewer_wait setting core outcome None;
      must = waits_as setting core outcome None (λ memory. refl);
      is_outcome = λ memory. refl;
      is_owed = λ by memory pending apart goes.
          owes setting core outcome None (λ memory. refl) by memory pending (Some depth)
          (doomed_unbefallen by setting memory pending regs steps depth apart) refl goes;
      is_made = λ memory pending goes.
          makes setting core outcome None (λ memory. refl) memory pending next (seen_memory memory pending) goes refl
          (λ unkept free. ap (seen_memory memory) free);
      loads = λ memory. refl;
      writes = λ memory pending. at_once (store_buffered setting (seen_memory memory pending) core outcome) [] refl;
      before = λ memory loads stores. refl;
      after = λ memory loads stores. refl;
      still = λ memory pending goes. refl;
    }

-- ---- any

-- a step that need not wait for what is pending
pub record IsUnseenHere (setting : Setting) (pending : Pending) (core : Core) (doom : Option ℕ) : Type 0 where
  pub step : IsUnseenStep setting core doom
  pub goes : step.waits pending ≡ false

pub unseen_step : (setting : Setting) (memory : List ℕ) (pending : Pending) (core : Core) (doom : Option ℕ)
    → is_unseen setting memory pending core doom ≡ true → IsUnseenHere setting pending core doom
unfolding doomed
unseen_step setting memory pending (Closed regs) None e =
    let seen : List ℕ = seen_memory memory pending in
    let owed : Outcome = owed_outcome setting seen (Closed regs) None in
    let waits : Bool = must_wait setting seen pending (Closed regs) owed in
    let writes : Bool = are_none (addresses_written_by setting memory pending (Closed regs) owed) in
    let parts = both (are_none (setting.load_of regs)) (not waits && writes) e in
    let others = both (not waits) writes parts.1 in
    let is = closed setting regs (empty (setting.load_of regs) parts.0) memory pending others.1 in
    record {
      step = is;
      goes = sym (is.must seen pending)
          ∙ (ap (must_wait setting seen pending (Closed regs)) (sym (is.is_outcome seen)) ∙ not_true waits others.0);
    }
unseen_step setting memory pending (Opened regs steps) (Some depth) e =
    record {
      step = doomed setting regs steps depth;
      goes = waits_never setting regs steps (status_at Conflict depth) pending;
    }
unseen_step setting memory pending (Closed regs) (Some depth) e = absurd (false≢true e)
unseen_step setting memory pending (Midway regs value) doom e = absurd (false≢true e)
unseen_step setting memory pending (Halted regs stop) doom e = absurd (false≢true e)
unseen_step setting memory pending (Opened regs steps) None e = absurd (false≢true e)

-- nothing is hit by a step that touches no memory
untouched_body : (body : Option Body) → depth_at_hit [] [] body ≡ None
untouched_body None = refl
untouched_body (Some body) = refl

pub untouched : (setting : Setting) (memory : List ℕ) (core : Core) (doom : Option ℕ)
    → doom_after_other setting memory [] [] core doom ≡ doom
untouched setting memory (Opened regs steps) None = untouched_body (isolated_body setting regs memory steps)
untouched setting memory (Opened regs steps) (Some depth) = refl
untouched setting memory (Closed regs) doom = refl
untouched setting memory (Midway regs value) doom = refl
untouched setting memory (Halted regs stop) doom = refl
