-- A step on what is shown of memory, of the pending stores and of each core (PendingStep) is the owed step of each
-- state that they stand for: the step on one memory, on the memory that the core sees, whose store is put where it
-- belongs; and a drain, which an event or a step that waits makes.
use Rattle.std.proofs.Common.{◌≡◌, ℕ, ◌<◌, Bool, true, false, cond, eqb, List, [], ◌∷◌, length, Option, Some, None}
use Rattle.std.proofs.Common.{refl}
use Rattle.std.proofs.Common.{sym, ap, ◌∙◌, subst, inl, inr, ⊎_elim}
use Rattle.std.specs.Prelude.{◌⊎◌, option_map, nat_eq, if◌then◌else◌}
use Rattle.std.proofs.lemmas.Option.{option_and_then_some, same_Some}
use Rattle.std.proofs.lemmas.Bool.{lt-ltb, true≢false}
use Rattle.tm_model.specs.Access.{Stores, memory_after, stored_addresses, stores_of}
use Rattle.tm_model.specs.Conflicts.{Doomed, addresses_at_once, addresses_loaded_by, addresses_stored_by}
use Rattle.tm_model.specs.Conflicts.{addresses_written_by, doom_after_other, doom_after_own, doomed_after}
use Rattle.tm_model.specs.Isolated.{isolated_body}
use Rattle.tm_model.specs.Owed.{owed_outcome, owed_under}
use Rattle.tm_model.specs.Runs.{IsOwedUnder, event_told}
use Rattle.tm_model.specs.Setting.{Setting}
use Rattle.tm_model.specs.Shown.{View, ViewsStandFor, view_between, view_inside, view_midway, view_of, view_outside}
use Rattle.tm_model.specs.State.{Closed, Core, Halted, Midway, Opened, Pending, State, seen_by, seen_memory, with_store}
use Rattle.tm_model.specs.Steps.{Change, Next, after_step, after_step_of, must_wait, settled, state_with, step}
use Rattle.tm_model.specs.Steps.{store_buffered}
use Rattle.tm_model.specs.declared.outcome.Event.TheVariants as event
use Rattle.tm_core.specs.PendingStep.{PendingResult, core_like, drain_result, drains, goes_or_waits, pending_then}
use Rattle.tm_core.specs.PendingStep.{settles, stepped_pending, touched_now, views_then}
use Rattle.tm_core.specs.StepRefinement.{StepResult, Touched, addresses_touched, lines_hit, stepped_under}
use Rattle.tm_core.specs.StepRefinement.{view_after_hit}
use Rattle.tm_core.specs.Types.{Aborted, AbortedBy, AtStop, Begins, Begun, Committed, Condemned, Drained}
use Rattle.tm_core.specs.Types.{Event}
use Rattle.tm_core.specs.Types.{Goes, Idle, Inside, Loaded, Outcome, OutsideResult, Plain, Regs}
use Rattle.tm_core.specs.Types.{Running}
use Rattle.tm_core.specs.Types.{Stopped, Stops, Store, Write}
use Rattle.tm_core.proofs.BufferLemmas.{both_hit, hits, loads_alone_hit}
use Rattle.tm_core.proofs.Frame.{length-memory_after}
use Rattle.tm_core.proofs.OtherCores.{Agree, agree_seen, length-seen, other_seen, same_self, view_inside_is}
use Rattle.tm_core.proofs.Sound.{Sound}
use Rattle.tm_core.proofs.SteppingCore.{Own, own_under}
use Rattle.tm_model.proofs.Events.{no_event_told}
use Rattle.tm_model.proofs.StoreBuffer.{sees, steps_as_seen}

-- ---- steps that are no drain

abbrev pub is_drained : Outcome → Bool
is_drained Drained = true
is_drained Plain = false
is_drained Loaded = false
is_drained (Stopped stop) = false
is_drained Idle = false
is_drained Begun = false
is_drained Inside = false
is_drained Committed = false
is_drained (Aborted status) = false
is_drained (AbortedBy by status) = false

tells_none : (o : Outcome) → event_told o ≡ None → is_drained o ≡ false
tells_none Drained told = cc
tells_none (AbortedBy by status) told = cc
tells_none Plain told = refl
tells_none Loaded told = refl
tells_none (Stopped stop) told = refl
tells_none Idle told = refl
tells_none Begun told = refl
tells_none Inside told = refl
tells_none Committed told = refl
tells_none (Aborted status) told = refl

-- with none pending, none is owed
pub alone_drains : (event : Option Event) (k : Setting) (m : List ℕ) (x : Core) (dx : Option ℕ) →
    is_drained (owed_under event k m [] x dx) ≡ false
alone_drains None k m x dx = tells_none (owed_outcome k m x dx) (no_event_told k m x dx)
alone_drains (Some event.Drain) k m x dx = tells_none (owed_outcome k m x dx) (no_event_told k m x dx)
alone_drains (Some (event.Abort by)) k m (Opened s n) None = refl
alone_drains (Some (event.Abort by)) k m (Opened s n) (Some depth) =
    tells_none (owed_outcome k m (Opened s n) (Some depth)) (no_event_told k m (Opened s n) (Some depth))
alone_drains (Some (event.Abort by)) k m (Closed s) dx =
    tells_none (owed_outcome k m (Closed s) dx) (no_event_told k m (Closed s) dx)
alone_drains (Some (event.Abort by)) k m (Midway s value) dx =
    tells_none (owed_outcome k m (Midway s value) dx) (no_event_told k m (Midway s value) dx)
alone_drains (Some (event.Abort by)) k m (Halted s x) dx =
    tells_none (owed_outcome k m (Halted s x) dx) (no_event_told k m (Halted s x) dx)

-- the event drains no store of these
abbrev pub DrainsNone : Option Event → Pending → Type 0
DrainsNone (Some event.Drain) (oldest ∷ younger) = ⊥
DrainsNone event pending = Unit {0}

-- what is owed is what is owed on the memory that the core sees with none pending, or it waits
owed_alone : (event : Option Event) (k : Setting) (m : List ℕ) (p : Pending) (x : Core) (dx : Option ℕ) →
    DrainsNone event p →
    owed_under event k m p x dx
    ≡ (let o : Outcome = owed_under event k (seen_memory m p) [] x dx in
    if must_wait k (seen_memory m p) p x o then Drained else o)
owed_alone None k m p x dx none = refl
owed_alone (Some event.Drain) k m [] x dx none = refl
owed_alone (Some event.Drain) k m (oldest ∷ younger) x dx none = absurd none
owed_alone (Some (event.Abort by)) k m [] (Opened s n) None none = refl
owed_alone (Some (event.Abort by)) k m (oldest ∷ younger) (Opened s n) None none = refl
owed_alone (Some (event.Abort by)) k m p (Opened s n) (Some depth) none = refl
owed_alone (Some (event.Abort by)) k m p (Closed s) dx none = refl
owed_alone (Some (event.Abort by)) k m p (Midway s value) dx none = refl
owed_alone (Some (event.Abort by)) k m p (Halted s x) dx none = refl

-- ---- a core like the one that is shown

abbrev pub IsLike : Core → Core → Type 0
IsLike x y = (y ≡ x) ⊎ ((s : Regs) × (n : ℕ) × (x ≡ Opened s n) × (y ≡ Opened s 0))

like_midway : (s : Regs) (value : ℕ) (o : OutsideResult) (v : View) → view_midway s value o ≡ Some v
    → core_like v v.mode ≡ Midway s value
like_midway s value (Goes t w) v e = ap (λ (u : View). core_like u u.mode) (sym (same_Some (view_between s value) v e))
like_midway s value (Begins t) v e = cc
like_midway s value (Stops x) v e = cc

pub is_like : (k : Setting) (m : List ℕ) (x : Core) (dx : Option ℕ) (v : View) → view_of k m x dx ≡ Some v
    → IsLike x (core_like v v.mode)
is_like k m (Closed s) None v e =
    inl (ap (λ (u : View). core_like u u.mode) (sym (same_Some (view_outside Running s) v e)))
is_like k m (Closed s) (Some depth) v e = cc
is_like k m (Midway s value) None v e = inl (like_midway s value (k.outside s value) v e)
is_like k m (Midway s value) (Some depth) v e = cc
is_like k m (Halted s x) None v e =
    inl (ap (λ (u : View). core_like u u.mode) (sym (same_Some (view_outside (AtStop x) s) v e)))
is_like k m (Halted s x) (Some depth) v e = cc
is_like k m (Opened s n) (Some depth) v e =
    inr (s, n, refl, ap (λ (u : View). core_like u u.mode) (sym (same_Some (view_outside (Condemned depth) s) v e)))
is_like k m (Opened s n) None v e =
    option_and_then_some (view_inside s) (isolated_body k s m n) v e (λ b is e2.
    inr (s, n, refl, ap (λ (u : View). core_like u u.mode) (sym (view_inside_is s b v e2).1)))

pub same_wait : (k : Setting) (m : List ℕ) (p : Pending) (x y : Core) (o : Outcome) → IsLike x y
    → must_wait k m p y o ≡ must_wait k m p x o
same_wait k m p x y o like =
    ⊎_elim (λ (e : y ≡ x). ap (λ z. must_wait k m p z o) e)
    (λ (e : (s : Regs) × (n : ℕ) × (x ≡ Opened s n) × (y ≡ Opened s 0)).
    ap (λ z. must_wait k m p z o) e.3 ∙ open_waits e.0 e.1 p ∙ sym (ap (λ z. must_wait k m p z o) e.2))
    like
  where
    open_waits : (s : Regs) (n : ℕ) (p : Pending) → must_wait k m p (Opened s 0) o ≡ must_wait k m p (Opened s n) o
    open_waits s n [] = refl
    open_waits s n (oldest ∷ younger) = refl

pub same_store : (k : Setting) (m : List ℕ) (x y : Core) (o : Outcome) → IsLike x y
    → store_buffered k m y o ≡ store_buffered k m x o
same_store k m x y o like =
    ⊎_elim (λ (e : y ≡ x). ap (λ z. store_buffered k m z o) e)
    (λ (e : (s : Regs) × (n : ℕ) × (x ≡ Opened s n) × (y ≡ Opened s 0)).
    ap (λ z. store_buffered k m z o) e.3 ∙ sym (ap (λ z. store_buffered k m z o) e.2))
    like

abbrev no_store : Option Store
no_store = None

either_none : (t : Bool) → (if t then no_store else no_store) ≡ no_store
either_none true = refl
either_none false = refl

open_store : (k : Setting) (m : List ℕ) (s : Regs) (n : ℕ) (o : Outcome) → store_buffered k m (Opened s n) o ≡ None
open_store k m s n o = either_none (nat_eq k.store_buffer 0)

same_touched : (k : Setting) (m : List ℕ) (x y : Core) (o : Outcome) (touched : Touched) → IsLike x y →
    touched_now (store_buffered k m y o) (addresses_loaded_by k m y o) touched
    ≡ touched_now (store_buffered k m x o) (addresses_loaded_by k m x o) touched
same_touched k m x y o touched like =
    ⊎_elim (λ (e : y ≡ x). ap (λ z. touched_now (store_buffered k m z o) (addresses_loaded_by k m z o) touched) e)
    (λ (e : (s : Regs) × (n : ℕ) × (x ≡ Opened s n) × (y ≡ Opened s 0)).
    ap (λ z. touched_now (store_buffered k m z o) (addresses_loaded_by k m z o) touched) e.3
    ∙ ap (λ w. touched_now w (addresses_loaded_by k m (Opened e.0 0) o) touched) (open_store k m e.0 0 o)
    ∙ sym (ap (λ w. touched_now w (addresses_loaded_by k m (Opened e.0 e.1) o) touched) (open_store k m e.0 e.1 o))
    ∙ sym (ap (λ z. touched_now (store_buffered k m z o) (addresses_loaded_by k m z o) touched) e.2))
    like

-- ---- where a step that does not wait puts what it stores

told_step : (k : Setting) (m : List ℕ) (p : Pending) (x : Core) (o : Outcome) → is_drained o ≡ false →
    after_step k m p x o
    ≡ (if must_wait k (seen_memory m p) p x o then None
    else option_map (settled m p (store_buffered k (seen_memory m p) x o)) (after_step_of k (seen_memory m p) x o))
told_step k m p x Drained told = cc
told_step k m p x (AbortedBy by status) told = refl
told_step k m p x Plain told = refl
told_step k m p x Loaded told = refl
told_step k m p x (Stopped stop) told = refl
told_step k m p x Idle told = refl
told_step k m p x Begun told = refl
told_step k m p x Inside told = refl
told_step k m p x Committed told = refl
told_step k m p x (Aborted status) told = refl

pub told_writes : (k : Setting) (m : List ℕ) (p : Pending) (x : Core) (o : Outcome) → is_drained o ≡ false →
    addresses_written_by k m p x o
    ≡ addresses_at_once (store_buffered k (seen_memory m p) x o) (addresses_stored_by k (seen_memory m p) x o)
told_writes k m p x Drained told = cc
told_writes k m p x (AbortedBy by status) told = refl
told_writes k m p x Plain told = refl
told_writes k m p x Loaded told = refl
told_writes k m p x (Stopped stop) told = refl
told_writes k m p x Idle told = refl
told_writes k m p x Begun told = refl
told_writes k m p x Inside told = refl
told_writes k m p x Committed told = refl
told_writes k m p x (Aborted status) told = refl

memory_settled : (m : List ℕ) (p : Pending) (store : Option Store) (n : List ℕ) (x y : Core) →
    (settled m p store (n, x)).0 ≡ (settled m p store (n, y)).0
memory_settled m p (Some store) n x y = refl
memory_settled m [] None n x y = refl
memory_settled m (o ∷ ys) None n x y = refl

pending_settled : (m : List ℕ) (p : Pending) (store : Option Store) (n : List ℕ) (x y : Core) →
    (settled m p store (n, x)).1.0 ≡ (settled m p store (n, y)).1.0
pending_settled m p (Some store) n x y = refl
pending_settled m [] None n x y = refl
pending_settled m (o ∷ ys) None n x y = refl

pub core_settled : (m : List ℕ) (p : Pending) (store : Option Store) (n : List ℕ) (x : Core)
    → (settled m p store (n, x)).1.1 ≡ x
core_settled m p (Some store) n x = refl
core_settled m [] None n x = refl
core_settled m (o ∷ ys) None n x = refl

-- what another core sees is the same where nothing was written
pub agree_settled : (m : List ℕ) (q p : Pending) (own : Core) (store : Option Store) (ws : Stores)
    → Agree (seen_memory m q) (seen_memory (settled m p store (memory_after (seen_memory m p) ws, own)).0 q)
    (addresses_at_once store (stored_addresses ws))
agree_settled m q p own (Some store) ws = λ reads ps on missed. same_self (seen_memory m q) ps
agree_settled m q [] own None ws = agree_seen m q ws
agree_settled m q (oldest ∷ younger) own None ws = λ reads ps on missed. same_self (seen_memory m q) ps

pub length-settled : (m : List ℕ) (p : Pending) (own : Core) (store : Option Store) (ws : Stores)
    → length (settled m p store (memory_after (seen_memory m p) ws, own)).0 ≡ length m
length-settled m p own (Some store) ws = refl
length-settled m [] own None ws = length-memory_after m ws
length-settled m (oldest ∷ younger) own None ws = refl

-- what touches it is that its loads, and what it wrote in memory
pub touch_settled : (store : Option Store) (ws : Stores) (loads : List ℕ) (touched : Touched)
    → ((v : View) → lines_hit v.reads v.writes touched ≡ hits v.reads v.writes loads (stored_addresses ws)) → (v : View)
    → lines_hit v.reads v.writes (touched_now store loads touched)
    ≡ hits v.reads v.writes loads (addresses_at_once store (stored_addresses ws))
touch_settled None ws loads touched touch = touch
touch_settled (Some store) ws loads touched touch = λ v. loads_alone_hit v.reads v.writes loads

-- what another core shows
other_settled : (k : Setting) (m : List ℕ) (q p : Pending) (own : Core) (store : Option Store) (ws : Stores)
    (loads : List ℕ) (touched : Touched)
    (touch : (v : View) → lines_hit v.reads v.writes touched ≡ hits v.reads v.writes loads (stored_addresses ws))
    (y : Core) (dy : Option ℕ) (v : View) → view_of k (seen_memory m q) y dy ≡ Some v →
    view_of k (seen_memory (settled m p store (memory_after (seen_memory m p) ws, own)).0 q) y
    (doom_after_other k (seen_memory m q) loads (addresses_at_once store (stored_addresses ws)) y dy)
    ≡ Some (view_after_hit (touched_now store loads touched) v)
other_settled k m q p own store ws loads touched touch =
    let after : List ℕ = (settled m p store (memory_after (seen_memory m p) ws, own)).0 in
    other_seen k (seen_memory m q) (seen_memory after q) loads (addresses_at_once store (stored_addresses ws))
    (touched_now store loads touched) (touch_settled store ws loads touched touch)
    (length-seen m q ∙ sym (length-settled m p own store ws) ∙ sym (length-seen after q))
    (agree_settled m q p own store ws)

-- ---- a right step

-- of core c, under an event or under none, by what it does to the machine
pub record Right (event : Option Event) (k : Setting) (cores : ℕ) (a : State) (d : Doomed) (c : ℕ) (outcome : Outcome)
    (m : List ℕ) (views : ℕ → View) (pending : ℕ → Pending) : Type 0 where
  pub owes : IsOwedUnder event k a d c outcome
  pub next : State
  pub steps : step k a c outcome ≡ Some next
  pub stands : ViewsStandFor k cores m views pending next (doomed_after k a d c outcome)

abbrev pub IsRight : Option Event → Setting → ℕ → State → Doomed → ℕ → (ℕ → View) → PendingResult → Type 0
IsRight event k cores a d c views result =
    Right event k cores a d c result.outcome result.memory (views_then views c result) (pending_then a.pending c result)

pub no_loads : (k : Setting) (m : List ℕ) (x : Core) → addresses_loaded_by k m x Drained ≡ []
no_loads k m (Closed s) = refl
no_loads k m (Midway s value) = refl
no_loads k m (Halted s x) = refl
no_loads k m (Opened s n) = refl

module _ (event : Option Event) (k : Setting) (sound : Sound k) (cores : ℕ) (a : State) (d : Doomed) (c : ℕ)
    (views : ℕ → View) (size : length a.memory ≡ k.size)
    (each : (j : ℕ) → j < cores → view_of k (seen_by a j) (a.cores j) (d j) ≡ Some (views j))
    (below : c < cores) (counted : cores ≡ a.count) where
  abbrev seen : List ℕ
  seen = seen_by a c

  abbrev p : Pending
  p = a.pending c

  abbrev x : Core
  x = a.cores c

  abbrev pub r : StepResult
  r = stepped_under event k seen (views c) (views c).mode

  there_is : (o : Outcome) → step k a c o ≡ option_map (state_with a c) (after_step k a.memory p x o)
  there_is o =
      ap (λ t. cond t (option_map (state_with a c) (after_step k a.memory p x o)) None)
      (lt-ltb c a.count (subst (λ n. c < n) counted below))

  pub mine : Own event k seen x (d c) r
  mine = own_under event k sound seen (length-seen a.memory p ∙ size) x (d c) (views c) (each c below)

  like : IsLike x (core_like (views c) (views c).mode)
  like = is_like k seen x (d c) (views c) (each c below)

  -- ---- a drain

  drained : (oldest : Store) (younger : Pending) → p ≡ oldest ∷ younger →
      IsOwedUnder event k a d c Drained
      → IsRight event k cores a d c views (drain_result a.memory oldest younger (views c))
  drained oldest younger is owes = record {
    owes = owes;
    next = state_with a c (with_store a.memory oldest, (younger, x));
    steps = there_is Drained ∙ ap (λ q. option_map (state_with a c) (after_step k a.memory q x Drained)) is;
    stands = record {
      same_memory = refl;
      same_count = counted;
      each = λ j within.
          elim (eqb j c) as (λ t. view_of k (seen_memory (with_store a.memory oldest) (cond t younger (a.pending j)))
          (cond t x (a.cores j)) (cond t (d c) (doom_after_other k (seen_by a j) (addresses_loaded_by k seen x Drained)
          (addresses_written_by k a.memory p x Drained) (a.cores j) (d j))) ≡ Some (cond t (views c)
          (view_after_hit (addresses_touched Write (stored_addresses (stores_of (Some oldest)))) (views j)))) [
            | true ↦ ap (λ q. view_of k (seen_memory a.memory q) x (d c)) (sym is) ∙ each c below
            | false ↦
                ap (λ ls. view_of k (seen_memory (with_store a.memory oldest) (a.pending j)) (a.cores j)
                (doom_after_other k (seen_by a j) ls (addresses_written_by k a.memory p x Drained) (a.cores j) (d j)))
                (no_loads k seen x)
                ∙ ap (λ q. view_of k (seen_memory (with_store a.memory oldest) (a.pending j)) (a.cores j)
                (doom_after_other k (seen_by a j) [] (addresses_written_by k a.memory q x Drained) (a.cores j) (d j)))
                is
                ∙ other_seen k (seen_by a j) (seen_memory (with_store a.memory oldest) (a.pending j)) []
                (stored_addresses (stores_of (Some oldest)))
                (addresses_touched Write (stored_addresses (stores_of (Some oldest))))
                (λ v. both_hit v.reads v.writes [] (stored_addresses (stores_of (Some oldest))))
                (length-seen a.memory (a.pending j) ∙ sym (length-memory_after a.memory (stores_of (Some oldest)))
                ∙ sym (length-seen (with_store a.memory oldest) (a.pending j)))
                (agree_seen a.memory (a.pending j) (stores_of (Some oldest))) (a.cores j) (d j)
                (views j) (each j within)
          ];
      same_pending = λ j within. refl;
    };
  }

  -- ---- a step that does not wait

  pub told : is_drained r.outcome ≡ false
  told = ap is_drained mine.owes ∙ alone_drains event k seen x (d c)

  pub owed_is : DrainsNone event p →
      owed_under event k a.memory p x (d c) ≡ (if must_wait k seen p x r.outcome then Drained else r.outcome)
  owed_is none =
      owed_alone event k a.memory p x (d c) none
      ∙ sym (ap (λ o. if must_wait k seen p x o then Drained else o) mine.owes)

  -- an owed outcome that is no drain is that of the step on what the core sees, which does not wait
  pub goes_as : DrainsNone event p → (o : Outcome) → is_drained o ≡ false → o ≡ owed_under event k a.memory p x (d c) →
      (must_wait k seen p x r.outcome ≡ false) × (o ≡ r.outcome)
  goes_as none o apart owes =
      (elim (must_wait k seen p x r.outcome)
      as (λ t. o ≡ (if t then Drained else r.outcome) → (t ≡ false) × (o ≡ r.outcome)) [
        | true ↦ λ is. absurd (true≢false (sym (ap is_drained is) ∙ apart))
        | false ↦ λ is. (refl, is)
      ]) (owes ∙ owed_is none)

  abbrev pub store : Option Store
  store = store_buffered k seen x r.outcome

  abbrev pub after : Next
  after = settled a.memory p store (memory_after seen mine.stores, mine.next)

  pub after_is : must_wait k seen p x r.outcome ≡ false → after_step k a.memory p x r.outcome ≡ Some after
  after_is goes =
      told_step k a.memory p x r.outcome told
      ∙ ap (λ t. cond t None (option_map (settled a.memory p store) (after_step_of k seen x r.outcome))) goes
      ∙ ap (option_map (settled a.memory p store)) mine.moves

  pub seen_is : must_wait k seen p x r.outcome ≡ false → seen_memory after.0 after.1.0 ≡ memory_after seen mine.stores
  seen_is goes =
      ap (λ (change : List ℕ × Core). change.0)
      (same_Some (sees after) (memory_after seen mine.stores, mine.next)
      (subst (λ (change : Change). option_map sees (option_map (settled a.memory p store) change) ≡ change) mine.moves
      (steps_as_seen k a.memory p x r.outcome goes)))

  abbrev result : PendingResult
  result = settles k a.memory p (views c) r

  like_store : store_buffered k seen (core_like (views c) (views c).mode) r.outcome ≡ store
  like_store = same_store k seen x (core_like (views c) (views c).mode) r.outcome like

  memory_is : result.memory ≡ after.0
  memory_is =
      ap (λ w. (settled a.memory p w (r.memory, core_like (views c) (views c).mode)).0) like_store
      ∙ ap (λ n. (settled a.memory p store (n, core_like (views c) (views c).mode)).0) mine.memory
      ∙ memory_settled a.memory p store (memory_after seen mine.stores) (core_like (views c) (views c).mode) mine.next

  pending_is : result.pending ≡ after.1.0
  pending_is =
      ap (λ w. (settled a.memory p w (r.memory, core_like (views c) (views c).mode)).1.0) like_store
      ∙ ap (λ n. (settled a.memory p store (n, core_like (views c) (views c).mode)).1.0) mine.memory
      ∙ pending_settled a.memory p store (memory_after seen mine.stores) (core_like (views c) (views c).mode) mine.next

  pub touched_is : result.touched ≡ touched_now store mine.loads r.touched
  touched_is =
      same_touched k seen x (core_like (views c) (views c).mode) r.outcome r.touched like
      ∙ ap (λ ls. touched_now store ls r.touched) (sym mine.loaded)

  here : must_wait k seen p x r.outcome ≡ false →
      view_of k (seen_memory after.0 after.1.0) after.1.1 (doom_after_own r.outcome (d c)) ≡ Some r.view
  here goes =
      ap (λ y. view_of k (seen_memory after.0 after.1.0) y (doom_after_own r.outcome (d c)))
      (core_settled a.memory p store (memory_after seen mine.stores) mine.next)
      ∙ ap (λ m. view_of k m mine.next (doom_after_own r.outcome (d c))) (seen_is goes)
      ∙ mine.shows

  there : (j : ℕ) → j < cores →
      view_of k (seen_memory after.0 (a.pending j)) (a.cores j)
      (doom_after_other k (seen_by a j) (addresses_loaded_by k seen x r.outcome)
      (addresses_written_by k a.memory p x r.outcome)
      (a.cores j) (d j))
      ≡ Some (view_after_hit result.touched (views j))
  there j within =
      ap (λ ls. view_of k (seen_memory after.0 (a.pending j)) (a.cores j)
      (doom_after_other k (seen_by a j) ls (addresses_written_by k a.memory p x r.outcome) (a.cores j) (d j)))
      (sym mine.loaded)
      ∙ ap (λ ps. view_of k (seen_memory after.0 (a.pending j)) (a.cores j)
      (doom_after_other k (seen_by a j) mine.loads ps (a.cores j) (d j)))
      (told_writes k a.memory p x r.outcome told ∙ ap (addresses_at_once store) (sym mine.wrote))
      ∙ other_settled k a.memory (a.pending j) p mine.next store mine.stores mine.loads r.touched mine.touch (a.cores j)
      (d j) (views j) (each j within)
      ∙ ap (λ t. Some (view_after_hit t (views j))) (sym touched_is)

  settled_right : DrainsNone event p → must_wait k seen p x r.outcome ≡ false → IsRight event k cores a d c views result
  settled_right none goes = record {
    owes = sym (owed_is none ∙ ap (λ t. if t then Drained else r.outcome) goes);
    next = state_with a c after;
    steps = there_is r.outcome ∙ ap (option_map (state_with a c)) (after_is goes);
    stands = record {
      same_memory = memory_is;
      same_count = counted;
      each = λ j within.
          elim (eqb j c) as (λ t. view_of k (seen_memory after.0 (cond t after.1.0 (a.pending j)))
          (cond t after.1.1 (a.cores j)) (cond t (doom_after_own r.outcome (d c)) (doom_after_other k (seen_by a j)
          (addresses_loaded_by k seen x r.outcome) (addresses_written_by k a.memory p x r.outcome) (a.cores j) (d j)))
          ≡ Some (cond t r.view (view_after_hit result.touched (views j)))) [
            | true ↦ here goes
            | false ↦ there j within
          ];
      same_pending = λ j within. ap (λ q. cond (eqb j c) q (a.pending j)) pending_is;
    };
  }

  -- ---- either

  waits_at : DrainsNone event p → (q : Pending) → p ≡ q → must_wait k seen p x r.outcome ≡ true →
      IsRight event k cores a d c views (drains a.memory q (views c))
  waits_at none [] is waits = absurd (true≢false (sym waits ∙ ap (λ q. must_wait k seen q x r.outcome) is))
  waits_at none (oldest ∷ younger) is waits =
      drained oldest younger is (sym (owed_is none ∙ ap (λ t. if t then Drained else r.outcome) waits))

  right_alone : DrainsNone event p → IsRight event k cores a d c views (goes_or_waits k a.memory p (views c) r)
  right_alone none =
      subst (λ w. IsRight event k cores a d c views (if w then drains a.memory p (views c) else result))
      (sym (same_wait k seen p x (core_like (views c) (views c).mode) r.outcome like))
      ((elim (must_wait k seen p x r.outcome) as (λ t. must_wait k seen p x r.outcome ≡ t
      → IsRight event k cores a d c views (if t then drains a.memory p (views c) else result)) [
        | true ↦ λ waits. waits_at none p refl waits
        | false ↦ λ goes. settled_right none goes
      ]) refl)

-- a step is right under each event and under none
module _ (k : Setting) (sound : Sound k) (cores : ℕ) (a : State) (d : Doomed) (c : ℕ) (views : ℕ → View)
    (size : length a.memory ≡ k.size)
    (each : (j : ℕ) → j < cores → view_of k (seen_by a j) (a.cores j) (d j) ≡ Some (views j))
    (below : c < cores) (counted : cores ≡ a.count) where
  drains_at : (q : Pending) → a.pending c ≡ q →
      IsRight (Some event.Drain) k cores a d c views (stepped_pending (Some event.Drain) k a.memory q (views c))
  drains_at [] is =
      subst (λ q. IsRight (Some event.Drain) k cores a d c views (goes_or_waits k a.memory q (views c)
      (stepped_under (Some event.Drain) k (seen_memory a.memory q) (views c) (views c).mode))) is
      (right_alone (Some event.Drain) k sound cores a d c views size each below counted
      (subst (DrainsNone (Some event.Drain)) (sym is) tt))
  drains_at (oldest ∷ younger) is =
      drained (Some event.Drain) k sound cores a d c views size each below counted oldest younger is
      (sym (ap (λ q. owed_under (Some event.Drain) k a.memory q (a.cores c) (d c)) is))

  pub right_step : (event : Option Event) →
      IsRight event k cores a d c views (stepped_pending event k a.memory (a.pending c) (views c))
  right_step None = right_alone None k sound cores a d c views size each below counted tt
  right_step (Some event.Drain) = drains_at (a.pending c) refl
  right_step (Some (event.Abort by)) =
      right_alone (Some (event.Abort by)) k sound cores a d c views size each below counted tt
