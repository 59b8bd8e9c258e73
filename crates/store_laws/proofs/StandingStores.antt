-- The queue of the steps that made the pending stores goes with the queue of the stores.
use Rattle.std.proofs.Common.{◌≡◌, ℕ, suc, ◌<◌, Bool, true, false, not, ◌||◌, eqb, if◌then◌else◌, List, [], ◌∷◌, ◌++◌}
use Rattle.std.proofs.Common.{length, map, nat_eq, nat_lt, Option, Some, None, refl, sym, ap, ◌∙◌, arith}
use Rattle.std.specs.Option.{is_some, option_map}
use Rattle.std.proofs.lemmas.Bool.{eqb-false, eqb-true, lt-ltb, ltb-true}
use Rattle.std.proofs.lemmas.List.{length-map, map-append}
use Rattle.ia_exec.specs.declared.done.Store.{Store}
use Rattle.tm_model.specs.Conflicts.{Doomed}
use Rattle.tm_model.specs.Explained.{owed_now}
use Rattle.tm_model.specs.Owed.{owed_under}
use Rattle.tm_model.specs.Setting.{Setting}
use Rattle.tm_model.specs.State.{Closed, Core, Halted, Midway, Opened, Pending, State, seen_memory}
use Rattle.tm_model.specs.Steps.{Change, Next, after_drain, after_step, after_step_of, must_wait, needs_none}
use Rattle.tm_model.specs.Steps.{needs_room, settled, state_with, store_buffered, store_outside}
use Rattle.tm_model.specs.declared.outcome.Event.{Event}
use Rattle.tm_model.specs.declared.outcome.Event.TheVariants as event
use Rattle.tm_model.specs.declared.outcome.Outcome.{Outcome}
use Rattle.tm_model.specs.declared.outcome.Outcome.TheVariants.{Aborted, AbortedBy, Begun, Committed, Drained, Idle}
use Rattle.tm_model.specs.declared.outcome.Outcome.TheVariants.{Inside, Loaded, Plain, Stopped}
use Rattle.tm_hist.proofs.QueueSteps.{is_drained, unfolds}
use Rattle.tm_stores.specs.Stores.{change_by, queue_after}
use Rattle.tm_stores.specs.declared.change.Change.{Change as QueueChange}
use Rattle.tm_stores.specs.declared.change.Change.TheVariants.{Drains, Pends, Stays}
use Rattle.tm_stores.specs.declared.change.MadeStore.{MadeStore}
use Rattle.tm_why.specs.Watched.{Told, made_store, queue_in}
use Rattle.tm_why.specs.declared.asked.Asked.{Asked}
use Rattle.store_laws.specs.Pending.{ArePending, StoresStand, store_pended}

-- ---- what a step of each kind does to its core's queue

drained_is : (o : Outcome) → is_drained o ≡ true → o ≡ Drained
drained_is Drained drains = refl
drained_is Plain drains = cc
drained_is Loaded drains = cc
drained_is (Stopped stop) drains = cc
drained_is Idle drains = cc
drained_is Begun drains = cc
drained_is Inside drains = cc
drained_is Committed drains = cc
drained_is (Aborted status) drains = cc
drained_is (AbortedBy by status) drains = cc

change_is : (o : Outcome) (pends : Bool) (made : MadeStore) → is_drained o ≡ false →
    change_by o pends made ≡ (if pends then Pends made else Stays)
change_is Drained pends made drains = cc
change_is Plain pends made drains = refl
change_is Loaded pends made drains = refl
change_is (Stopped stop) pends made drains = refl
change_is Idle pends made drains = refl
change_is Begun pends made drains = refl
change_is Inside pends made drains = refl
change_is Committed pends made drains = refl
change_is (Aborted status) pends made drains = refl
change_is (AbortedBy by status) pends made drains = refl

-- an event changes nothing of whether the core's own store pends, but where a drain comes in the step's place
same_pends : (event : Option Event) (k : Setting) (m : List ℕ) (p : Pending) (x : Core) (d : Option ℕ) →
    is_drained (owed_under event k m p x d) ≡ false →
    is_some (store_buffered k (seen_memory m p) x (owed_under None k m p x d))
    ≡ is_some (store_buffered k (seen_memory m p) x (owed_under event k m p x d))
same_pends None k m p x d drains = refl
same_pends (Some event.Drain) k m [] x d drains = refl
same_pends (Some event.Drain) k m (oldest ∷ younger) x d drains = cc
same_pends (Some (event.Abort by)) k m p (Opened regs steps) d drains = refl
same_pends (Some (event.Abort by)) k m p (Halted regs stop) d drains = refl
same_pends (Some (event.Abort by)) k m p (Closed regs) d drains = refl
same_pends (Some (event.Abort by)) k m p (Midway regs value) d drains = refl

-- ---- room

buffered : (b : Bool) (store : Option Store) (s : Store) → (if b then None else store) ≡ Some s →
    (b ≡ false) × (store ≡ Some s)
buffered true store s is = cc
buffered false store s is = (refl, is)

right : (a b : Bool) → (a || b) ≡ false → b ≡ false
right true b is = cc
right false b is = is

no_not : (b : Bool) → not b ≡ false → b ≡ true
no_not true is = refl
no_not false is = cc

room_for : (k : Setting) (seen : List ℕ) (p : Pending) (x : Core) (o : Outcome) (s : Store) →
    store_buffered k seen x o ≡ Some s → must_wait k seen p x o ≡ false → length p < k.store_buffer
room_for k seen [] x o s is goes =
    let some : k.store_buffer ≡ 0 → ⊥ =
    eqb-false k.store_buffer 0 (buffered (nat_eq k.store_buffer 0) (store_outside k seen x o) s is).0 in
    omega (arith, some)
room_for k seen (oldest ∷ younger) x o s is goes =
    let there = (buffered (nat_eq k.store_buffer 0) (store_outside k seen x o) s is).1 in
    let roomy : needs_room k (oldest ∷ younger) (store_outside k seen x o) ≡ false =
    right (needs_none k x o) (needs_room k (oldest ∷ younger) (store_outside k seen x o)) goes in
    ltb-true (length (oldest ∷ younger)) k.store_buffer
    (no_not (nat_lt (length (oldest ∷ younger)) k.store_buffer)
    (sym (ap (needs_room k (oldest ∷ younger)) there) ∙ roomy))

-- ---- the queue of the core that steps

abbrev pending_of : Option Next → Pending
pending_of None = []
pending_of (Some next) = next.1.0

abbrev rest_of : Pending → Pending
rest_of [] = []
rest_of (oldest ∷ younger) = younger

module _ (stored : ℕ → Store) where
  abbrev stores : List MadeStore → Pending
  stores queue = map (λ (made : MadeStore). stored made.step) queue

  drained : (m : List ℕ) (p : Pending) (x : Core) (queue : List MadeStore) (most : ℕ) (next : Next) →
      p ≡ stores queue → after_drain m p x ≡ Some next → next.1.0 ≡ stores (queue_after most Drains queue)
  drained m [] x queue most next same is = cc
  drained m (oldest ∷ younger) x [] most next same is = cc
  drained m (oldest ∷ younger) x (first ∷ others) most next same is = sym (ap pending_of is) ∙ ap rest_of same

  stays : (m : List ℕ) (p : Pending) (change : Change) (next : Next) →
      option_map (settled m p None) change ≡ Some next → next.1.0 ≡ p
  stays m p None next is = cc
  stays m [] (Some change) next is = sym (ap pending_of is)
  stays m (oldest ∷ younger) (Some change) next is = sym (ap pending_of is)

  added : (m : List ℕ) (p : Pending) (s : Store) (change : Change) (next : Next) →
      option_map (settled m p (Some s)) change ≡ Some next → next.1.0 ≡ p ++ s ∷ []
  added m p s None next is = cc
  added m p s (Some change) next is = sym (ap pending_of is)

  pushed : (queue : List MadeStore) (most : ℕ) (made : MadeStore) (s : Store) → length queue < most →
      stored made.step ≡ s → stores (queue_after most (Pends made) queue) ≡ stores queue ++ s ∷ []
  pushed queue most made s room is =
      ap (λ (b : Bool). stores (if b then queue ++ made ∷ [] else queue)) (lt-ltb (length queue) most room)
      ∙ map-append (λ (made : MadeStore). stored made.step) queue (made ∷ [])
      ∙ ap (λ (t : Store). stores queue ++ t ∷ []) is

  module _ (k : Setting) (m : List ℕ) (p : Pending) (x : Core) (queue : List MadeStore)
      (same : p ≡ stores queue) where
    made_so : (o : Outcome) (made : MadeStore) (next : Next) (waits : Bool) (store : Option Store) →
        must_wait k (seen_memory m p) p x o ≡ waits → store_buffered k (seen_memory m p) x o ≡ store →
        ((s : Store) → store ≡ Some s → stored made.step ≡ s) →
        (if waits then None else option_map (settled m p store) (after_step_of k (seen_memory m p) x o)) ≡ Some next →
        next.1.0 ≡ stores (queue_after k.store_buffer (if is_some store then Pends made else Stays) queue)
    made_so o made next true store waits pends named is = cc
    made_so o made next false None waits pends named is =
        stays m p (after_step_of k (seen_memory m p) x o) next is ∙ same
    made_so o made next false (Some s) waits pends named is =
        let few : length p < k.store_buffer = room_for k (seen_memory m p) p x o s pends waits in
        let long : length p ≡ length queue =
        ap length same ∙ length-map queue (λ (made : MadeStore). stored made.step) in
        added m p s (after_step_of k (seen_memory m p) x o) next is
        ∙ ap (λ (l : Pending). l ++ s ∷ []) same
        ∙ sym (pushed queue k.store_buffer made s (omega arith) (named s refl))

    by_kind : (o : Outcome) (made : MadeStore) (pends drains : Bool) (next : Next) → is_drained o ≡ drains →
        (drains ≡ false → pends ≡ is_some (store_buffered k (seen_memory m p) x o)) →
        ((s : Store) → store_buffered k (seen_memory m p) x o ≡ Some s → stored made.step ≡ s) →
        after_step k m p x o ≡ Some next →
        next.1.0 ≡ stores (queue_after k.store_buffer (change_by o pends made) queue)
    by_kind o made pends true next drains told named is =
        let is_it : o ≡ Drained = drained_is o drains in
        drained m p x queue k.store_buffer next same (sym (ap (λ (a : Outcome). after_step k m p x a) is_it) ∙ is)
        ∙ sym (ap (λ (a : Outcome). stores (queue_after k.store_buffer (change_by a pends made) queue)) is_it)
    by_kind o made pends false next drains told named is =
        made_so o made next (must_wait k (seen_memory m p) p x o) (store_buffered k (seen_memory m p) x o) refl refl
        named (sym (unfolds k m p x o drains) ∙ is)
        ∙ sym
        (ap (λ (c : QueueChange). stores (queue_after k.store_buffer c queue)) (change_is o pends made drains)
        ∙ ap (λ (b : Bool). stores (queue_after k.store_buffer (if b then Pends made else Stays) queue)) (told refl))

-- ---- the queues of all cores

abbrev pending_in : Option State → ℕ → Pending
pending_in None core = []
pending_in (Some state) core = state.pending core

module _ (stored : ℕ → Store) (event : Option Event) (setting : Setting) (state next : State) (doomed : Doomed)
    (asked : Asked) (earlier : List Told)
    (told : asked.pends ≡ is_some (store_pended None setting state doomed asked.core))
    (named : (store : Store) → store_pended event setting state doomed asked.core ≡ Some store →
    stored (suc (length earlier)) ≡ store)
    (are : ArePending stored setting.store_buffer state earlier) where
  abbrev outcome : Outcome
  outcome = owed_now event setting state doomed asked.core

  abbrev own : Option Next
  own = after_step setting state.memory (state.pending asked.core) (state.cores asked.core) outcome

  abbrev most : ℕ
  most = setting.store_buffer

  abbrev queue_then : ℕ → List MadeStore
  queue_then core =
      queue_after most (change_by outcome asked.pends (made_store (suc (length earlier)) asked))
      (queue_in most core earlier)

  behind : (made : Next) → own ≡ Some made → (core : ℕ) (same : Bool) → eqb core asked.core ≡ same →
      (if same then made.1.0 else state.pending core)
      ≡ stores stored (if same then queue_then core else queue_in most core earlier)
  behind made is core true e =
      by_kind stored setting state.memory (state.pending asked.core) (state.cores asked.core)
      (queue_in most asked.core earlier) (are asked.core) outcome (made_store (suc (length earlier)) asked)
      asked.pends (is_drained outcome) made refl
      (λ drains. told ∙ same_pends event setting state.memory (state.pending asked.core) (state.cores asked.core)
      (doomed asked.core) drains) named is
      ∙ ap (λ (n : ℕ). stores stored (queue_then n)) (sym (eqb-true core asked.core e))
  behind made is core false e = are core

  by_own : (made : Option Next) (exists : Bool) → own ≡ made →
      (if exists then option_map (state_with state asked.core) made else None) ≡ Some next →
      ArePending stored most next ((asked, outcome) ∷ earlier)
  by_own made false is stepped core = cc
  by_own None true is stepped core = cc
  by_own (Some made) true is stepped core =
      sym (ap (λ (s : Option State). pending_in s core) stepped)
      ∙ behind made is core (eqb core asked.core) refl

pub stores_stand : StoresStand
stores_stand stored event setting state next doomed asked earlier told named stepped are =
    by_own stored event setting state next doomed asked earlier told named are
    (own stored event setting state next doomed asked earlier told named are) (nat_lt asked.core state.count) refl
    stepped
