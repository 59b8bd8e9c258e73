-- What is foreseen of a step, case by case: it goes, needs that no store is pending, or stores.
use Rattle.std.proofs.Common.{◌≡◌, ℕ, ◌+◌, ◌-◌, ◌<◌, ◌≤◌, Bool, true, false, cond, List, [], ◌∷◌, length, map}
use Rattle.std.proofs.Common.{Option, Some, None, refl, sym, ap, ◌∙◌, subst, arith, ⊎_elim}
use Rattle.std.specs.Prelude.{◌||◌, ◌&&◌, ◌==◌, not, if◌then◌else◌, nat_eq, IfSome}
use Rattle.std.proofs.lemmas.Bool.{cases_lt, le-ltb, lt-ltb, ne_eqb}
use Rattle.ia_word.specs.Width.{bytes_of}
use Rattle.tm_rule.specs.Rule.{load_at, outside_of}
use Rattle.tm_rule.proofs.Facts.{StoreIn}
use Rattle.tm_sets.specs.Content.{Content}
use Rattle.tm_model.specs.Access.{bytes_at, loaded_addresses, loaded_value, stores_of}
use Rattle.tm_model.specs.Conflicts.{addresses_loaded_by}
use Rattle.tm_model.specs.Owed.{have_room, status_at}
use Rattle.tm_model.specs.Setting.{Setting, outside_at, value_at}
use Rattle.tm_model.specs.Shown.{View, view_outside}
use Rattle.tm_model.specs.State.{Closed, Core, Midway, Opened, Pending}
use Rattle.tm_model.specs.Steps.{must_wait, needs_none, needs_room, store_of, store_outside}
use Rattle.tm_core.specs.declared.ahead.Ahead.{Ahead}
use Rattle.tm_core.specs.declared.ahead.Ahead.TheVariants as ahead
use Rattle.tm_core.specs.declared.buffering.Wait.TheVariants as wait
use Rattle.tm_core.specs.Representation.{parts_setting, setting_with}
use Rattle.tm_core.specs.StepRefinement.{StepResult, finished, grows, loaded, quit, ran, ran_inside}
use Rattle.tm_core.specs.StepRefinement.{ran_on, seen, stayed, stepped, stored}
use Rattle.tm_core.specs.StoreBuffers.{IsForeseen}
use Rattle.tm_core.specs.Types.{Aborted, AbortedBy, Access, AtStop, Begins, Begun, Capacity, Committed, Condemned}
use Rattle.tm_core.specs.Types.{CoreState, Drained, Ends, Fails, Goes, GoesOn, Idle, Inside, InsideResult, Loaded, Mid}
use Rattle.tm_core.specs.Types.{Nests, Open, Outcome, OutsideResult, Plain, Regs, Running, Stopped, Stops, Store}

-- ---- a step on one memory, whatever the size of the store buffers

module _ (code : List ℕ) (base size : ℕ) (a : Content) (most : ℕ) (m : List ℕ) where
  abbrev k : Setting
  k = setting_with code base size a most

  abbrev k0 : Setting
  k0 = parts_setting code base size a

  ran_same : (s : Regs) (o : OutsideResult) → ran k m s o ≡ ran k0 m s o
  ran_same s (Goes t w) = refl
  ran_same s (Begins t) = refl
  ran_same s (Stops x) = refl

  inside_same : (v : View) (depth : ℕ) (loads : List ℕ) (o : InsideResult)
      → ran_inside k m v depth loads o ≡ ran_inside k0 m v depth loads o
  inside_same v depth loads (GoesOn t w) = refl
  inside_same v depth loads (Nests t) = refl
  inside_same v depth loads (Ends t) = refl
  inside_same v depth loads (Fails cause) = refl

  pub stepped_same : (v : View) (mode : CoreState) → stepped k m v mode ≡ stepped k0 m v mode
  stepped_same v Running = ran_same v.base (outside_at k v.base m)
  stepped_same v Mid = refl
  stepped_same v (Open depth) =
      inside_same v depth (k.load_of v.regs)
      (k.inside v.regs depth (k.value_of v.regs (map (seen v.buffer m) (k.load_of v.regs))))
  stepped_same v (Condemned depth) = refl
  stepped_same v (AtStop x) = refl

-- ---- whether it waits

module _ (k : Setting) (m : List ℕ) where
  pub goes_on : (p : Pending) (core : Core) (o : Outcome) → needs_none k core o ≡ false
      → store_outside k m core o ≡ None → must_wait k m p core o ≡ false
  goes_on [] core o free none = refl
  goes_on (oldest ∷ younger) core o free none =
      ap (λ t. t || needs_room k (oldest ∷ younger) (store_outside k m core o)) free
      ∙ ap (needs_room k (oldest ∷ younger)) none

  pub ahead_goes : (p : Pending) (core : Core) (r : StepResult) → needs_none k core r.outcome ≡ false
      → store_outside k m core r.outcome ≡ None → IsForeseen k m p core r ahead.Goes
  ahead_goes p core r free none = (goes_on p core r.outcome free none, none)

  pub ahead_none : (p : Pending) (core : Core) (r : StepResult) → needs_none k core r.outcome ≡ true
      → store_outside k m core r.outcome ≡ None → (x : Ahead)
      → x ≡ (if length p == 0 then ahead.Goes else ahead.Waits wait.ForNone) → IsForeseen k m p core r x
  ahead_none [] core r needs none x is = subst (IsForeseen k m [] core r) (sym is) (refl, none)
  ahead_none (oldest ∷ younger) core r needs none x is =
      subst (IsForeseen k m (oldest ∷ younger) core r)
      (sym (is
      ∙ ap (λ t. if t then ahead.Goes else ahead.Waits wait.ForNone)
      (ne_eqb (length (oldest ∷ younger)) 0 (omega arith))))
      (record {
        waits = ap (λ t. t || needs_room k (oldest ∷ younger) (store_outside k m core r.outcome)) needs;
        needs = needs;
      })

  has_place : (p : Pending) (core : Core) (o : Outcome) (w : Store) → needs_none k core o ≡ false
      → store_outside k m core o ≡ Some w → length p < k.store_buffer → must_wait k m p core o ≡ false
  has_place [] core o w free store room = refl
  has_place (oldest ∷ younger) core o w free store room =
      ap (λ t. t || needs_room k (oldest ∷ younger) (store_outside k m core o)) free
      ∙ ap (needs_room k (oldest ∷ younger)) store
      ∙ ap not (lt-ltb (length (oldest ∷ younger)) k.store_buffer room)

  has_no_place : (p : Pending) (core : Core) (o : Outcome) (w : Store) → needs_none k core o ≡ false
      → store_outside k m core o ≡ Some w → k.store_buffer ≤ length p → 0 < k.store_buffer
      → must_wait k m p core o ≡ true
  has_no_place [] core o w free store full some = absurd (omega arith)
  has_no_place (oldest ∷ younger) core o w free store full some =
      ap (λ t. t || needs_room k (oldest ∷ younger) (store_outside k m core o)) free
      ∙ ap (needs_room k (oldest ∷ younger)) store
      ∙ ap not (le-ltb (length (oldest ∷ younger)) k.store_buffer full)

  -- a step that stores this, or nothing
  pub ahead_room : (p : Pending) (core : Core) (r : StepResult) (regs : Regs) (access : Option Access)
      (w : Option Store) → needs_none k core r.outcome ≡ false → r.outcome ≡ Plain
      → store_outside k m core r.outcome ≡ w → r.view ≡ view_outside Running regs →
      addresses_loaded_by k m core r.outcome ≡ loaded_addresses access
      → IfSome access (λ load. load.addr + bytes_of load.width ≤ length m) → StoreIn (length m) w → 0 < k.store_buffer →
      (x : Ahead) → (w ≡ None → x ≡ ahead.Goes) →
      ((made : Store) → w ≡ Some made → length p < k.store_buffer
      → x ≡ ahead.Stores (record { regs = regs; access = access; store = made })) →
      ((made : Store) → w ≡ Some made → k.store_buffer ≤ length p → x ≡ ahead.Waits wait.ForRoom)
      → IsForeseen k m p core r x
  ahead_room p core r regs access None free plain store view loads within storable some x none room full =
      subst (IsForeseen k m p core r) (sym (none refl)) (ahead_goes p core r free store)
  ahead_room p core r regs access (Some w) free plain store view loads within storable some x none room full =
      ⊎_elim
      (λ (here : length p < k.store_buffer). subst (IsForeseen k m p core r) (sym (room w refl here)) (record {
        goes = has_place p core r.outcome w free store here;
        outcome = plain;
        store = store;
        view = view;
        loads = loads;
        within = within;
        storable = storable;
        room = here;
      }))
      (λ (past : k.store_buffer ≤ length p). subst (IsForeseen k m p core r) (sym (full w refl past))
      (record { waits = has_no_place p core r.outcome w free store past some; needs = free }))
      (cases_lt (length p) k.store_buffer)

  -- ---- of a running core

  module _ (p : Pending) (v : View) where
    abbrev closed : Core
    closed = Closed v.base

    ran_is : (o : OutsideResult) → outside_at k v.base m ≡ o → stepped k m v Running ≡ ran k m v.base o
    ran_is o is = ap (ran k m v.base) is

    two_is : (t : Regs) (w : Option Store) → outside_at k v.base m ≡ Goes t w → k.takes_two_steps v.base ≡ true
        → stepped k m v Running ≡ loaded m (k.load_of v.base) v.base (value_at k v.base m)
    two_is t w is two =
        ran_is (Goes t w) is
        ∙ ap (λ b. cond b (loaded m (k.load_of v.base) v.base (value_at k v.base m)) (stored m (k.load_of v.base) t w))
        two

    one_is : (t : Regs) (w : Option Store) → outside_at k v.base m ≡ Goes t w → k.takes_two_steps v.base ≡ false
        → stepped k m v Running ≡ stored m (k.load_of v.base) t w
    one_is t w is one =
        ran_is (Goes t w) is
        ∙ ap (λ b. cond b (loaded m (k.load_of v.base) v.base (value_at k v.base m)) (stored m (k.load_of v.base) t w))
        one

    pub loads_ahead : (t : Regs) (w : Option Store) → outside_at k v.base m ≡ Goes t w
        → k.takes_two_steps v.base ≡ true → IsForeseen k m p closed (stepped k m v Running) ahead.Goes
    loads_ahead t w is two =
        subst (λ (r : StepResult). IsForeseen k m p closed r ahead.Goes) (sym (two_is t w is two))
        (ahead_goes p closed (loaded m (k.load_of v.base) v.base (value_at k v.base m)) refl refl)

    pub fence_ahead : (t : Regs) (w : Option Store) → outside_at k v.base m ≡ Goes t w
        → k.takes_two_steps v.base ≡ false → k.waits v.base ≡ true → (x : Ahead)
        → x ≡ (if length p == 0 then ahead.Goes else ahead.Waits wait.ForNone)
        → IsForeseen k m p closed (stepped k m v Running) x
    fence_ahead t w is one waits x told =
        subst (λ (r : StepResult). IsForeseen k m p closed r x) (sym (one_is t w is one))
        (ahead_none p closed (stored m (k.load_of v.base) t w) waits
        (ap (λ b. cond b None (store_of (outside_at k v.base m))) waits) x told)

    pub store_ahead : (t : Regs) (access : Option Access) (w : Option Store) → outside_at k v.base m ≡ Goes t w
        → k.takes_two_steps v.base ≡ false → k.waits v.base ≡ false → k.load_of v.base ≡ loaded_addresses access
        → IfSome access (λ load. load.addr + bytes_of load.width ≤ length m) → StoreIn (length m) w
        → 0 < k.store_buffer →
        (x : Ahead) → (w ≡ None → x ≡ ahead.Goes) →
        ((made : Store) → w ≡ Some made → length p < k.store_buffer
        → x ≡ ahead.Stores (record { regs = t; access = access; store = made })) →
        ((made : Store) → w ≡ Some made → k.store_buffer ≤ length p → x ≡ ahead.Waits wait.ForRoom)
        → IsForeseen k m p closed (stepped k m v Running) x
    store_ahead t access w is one waits loads within storable some x none room full =
        subst (λ (r : StepResult). IsForeseen k m p closed r x) (sym (one_is t w is one))
        (ahead_room p closed (stored m (k.load_of v.base) t w) t access w waits refl
        (ap (λ b. cond b None (store_of (outside_at k v.base m))) waits ∙ ap store_of is) refl loads within storable
        some x none room full)

    pub begin_ahead : (t : Regs) → outside_at k v.base m ≡ Begins t
        → IsForeseen k m p closed (stepped k m v Running) ahead.Goes
    begin_ahead t is =
        subst (λ (r : StepResult). IsForeseen k m p closed r ahead.Goes) (sym (ran_is (Begins t) is))
        (ahead_goes p closed (ran k m v.base (Begins t)) refl refl)

    pub stop_ahead : (x : Ahead) (why : Rattle.tm_core.specs.Types.Stop) → outside_at k v.base m ≡ Stops why
        → x ≡ (if length p == 0 then ahead.Goes else ahead.Waits wait.ForNone)
        → IsForeseen k m p closed (stepped k m v Running) x
    stop_ahead x why is told =
        subst (λ (r : StepResult). IsForeseen k m p closed r x) (sym (ran_is (Stops why) is))
        (ahead_none p closed (ran k m v.base (Stops why)) refl refl x told)

    -- ---- between two steps

    abbrev midway : Core
    midway = Midway v.base v.kept

    pub second_ahead : (t : Regs) (w : Option Store) → k.outside v.base v.kept ≡ Goes t w → StoreIn (length m) w
        → 0 < k.store_buffer →
        (x : Ahead) → (w ≡ None → x ≡ ahead.Goes) →
        ((made : Store) → w ≡ Some made → length p < k.store_buffer
        → x ≡ ahead.Stores (record { regs = t; access = None; store = made })) →
        ((made : Store) → w ≡ Some made → k.store_buffer ≤ length p → x ≡ ahead.Waits wait.ForRoom)
        → IsForeseen k m p midway (stepped k m v Mid) x
    second_ahead t w is storable some x none room full =
        subst (λ (r : StepResult). IsForeseen k m p midway r x) (sym (ap (ran_on m v) is))
        (ahead_room p midway (stored m [] t w) t None w refl refl (ap store_of is) refl refl tt storable some x none
        room full)

    pub second_begins : (t : Regs) → k.outside v.base v.kept ≡ Begins t
        → IsForeseen k m p midway (stepped k m v Mid) ahead.Goes
    second_begins t is =
        subst (λ (r : StepResult). IsForeseen k m p midway r ahead.Goes) (sym (ap (ran_on m v) is))
        (ahead_goes p midway (ran_on m v (Begins t)) refl (ap store_of is))

    pub second_stops : (why : Rattle.tm_core.specs.Types.Stop) → k.outside v.base v.kept ≡ Stops why
        → IsForeseen k m p midway (stepped k m v Mid) ahead.Goes
    second_stops why is =
        subst (λ (r : StepResult). IsForeseen k m p midway r ahead.Goes) (sym (ap (ran_on m v) is))
        (ahead_goes p midway (ran_on m v (Stops why)) refl (ap store_of is))

-- ---- of an open core

needs_same : (k k2 : Setting) (s : Regs) (n : ℕ) (o : Outcome)
    → needs_none k (Opened s n) o ≡ needs_none k2 (Opened s n) o
needs_same k k2 s n Plain = refl
needs_same k k2 s n Loaded = refl
needs_same k k2 s n (Stopped stop) = refl
needs_same k k2 s n Idle = refl
needs_same k k2 s n Begun = refl
needs_same k k2 s n Inside = refl
needs_same k k2 s n Committed = refl
needs_same k k2 s n (Aborted status) = refl
needs_same k k2 s n (AbortedBy by status) = refl
needs_same k k2 s n Drained = refl

module _ (k : Setting) (m : List ℕ) (v : View) (depth : ℕ) (loads : List ℕ) where
  abbrev pub commits : StepResult → Bool
  commits r = needs_none k (Opened v.base 0) r.outcome

  stays_in : (next : View) (room : Bool)
      → commits (cond room (stayed m loads next) (quit k m v (status_at Capacity depth))) ≡ false
  stays_in next true = refl
  stays_in next false = refl

  pub fails_commit : (o : InsideResult) → ((t : Regs) → o ≡ Ends t → ⊥)
      → commits (ran_inside k m v depth loads o) ≡ false
  fails_commit (Fails cause) apart = refl
  fails_commit (GoesOn t w) apart =
      let next : View = grows v depth t loads (stores_of w) in stays_in next (have_room k next.reads next.writes)
  fails_commit (Nests t) apart =
      let next : View = grows v (depth + 1) t loads [] in stays_in next (have_room k next.reads next.writes)
  fails_commit (Ends t) apart = absurd (apart t refl)

  ends_by : (next : View) (room last : Bool)
      → commits (cond room (cond last (finished m next) (stayed m loads next)) (quit k m v (status_at Capacity depth)))
      ≡ (last && room)
  ends_by next true true = refl
  ends_by next true false = refl
  ends_by next false true = refl
  ends_by next false false = refl

  pub ends_commit : (t : Regs) →
      let next : View = grows v (depth - 1) t loads [] in
      commits (ran_inside k m v depth loads (Ends t)) ≡ (nat_eq depth 1 && have_room k next.reads next.writes)
  ends_commit t =
      let next : View = grows v (depth - 1) t loads [] in
      ends_by next (have_room k next.reads next.writes) (nat_eq depth 1)

-- ---- by what the code's rules answer

-- the instruction at these registers, by its load and the value that it finds
pub comes_to : (code : List ℕ) (base : ℕ) (m : List ℕ) (a : Content) (most : ℕ) (t s : Regs) (access : Option Access)
    (value : ℕ) (o : OutsideResult) → t ≡ s → access ≡ load_at code base (length m) s
    → value ≡ loaded_value access (bytes_at m (loaded_addresses access)) → o ≡ outside_of code base (length m) s value
    → outside_at (setting_with code base (length m) a most) t m ≡ o
comes_to code base m a most t s access value o same load is comes =
    ap (λ r. outside_at (setting_with code base (length m) a most) r m) same
    ∙ ap (λ x. outside_of code base (length m) s (loaded_value x (bytes_at m (loaded_addresses x)))) (sym load)
    ∙ ap (outside_of code base (length m) s) (sym is)
    ∙ sym comes

-- the next step of an open core is no commit, or one, whatever the size of the store buffers
pub commit_at : (code : List ℕ) (base size : ℕ) (a : Content) (most : ℕ) (m : List ℕ) (v : View) (depth : ℕ) (is : Bool)
    → is ≡ needs_none (parts_setting code base size a) (Opened v.base 0)
    (stepped (parts_setting code base size a) m v (Open depth)).outcome
    → needs_none (setting_with code base size a most) (Opened v.base 0)
    (stepped (setting_with code base size a most) m v (Open depth)).outcome ≡ is
commit_at code base size a most m v depth is told =
    ap (λ (r : StepResult). needs_none (setting_with code base size a most) (Opened v.base 0) r.outcome)
    (stepped_same code base size a most m v (Open depth))
    ∙ needs_same (setting_with code base size a most) (parts_setting code base size a) v.base 0
    (stepped (parts_setting code base size a) m v (Open depth)).outcome
    ∙ sym told
