-- What a step of a machine's parts leaves where stores of its core are pending, in each of the three ways in which it
-- is
-- made: on memory as the core sees it, with its store behind the others, or as a drain in its place.
use Rattle.std.proofs.Common.{◌≡◌, ℕ, ◌+◌, ◌-◌, ◌*◌, ◌^◌, ◌<◌, ◌≤◌, Bool, true, false, cond, eqb, List, [], ◌∷◌, ◌++◌}
use Rattle.std.proofs.Common.{length, reverse}
use Rattle.std.proofs.Common.{drop, get_or, map, set, suc, Option, Some, None, refl, sym, ap, ◌∙◌, subst, arith}
use Rattle.std.proofs.Common.{length-set}
use Rattle.std.specs.Prelude.{All, if◌then◌else◌, nat_eq}
use Rattle.std.proofs.lemmas.Bool.{ne_eqb, or_parts, true≢false}
use Rattle.std.proofs.lemmas.List.{nil_from_length, set-get_or}
use Rattle.tm_sets.specs.Content.{Content}
use Rattle.tm_model.specs.Access.{loaded_addresses, memory_after, stored_addresses, stores_of}
use Rattle.tm_model.specs.Conflicts.{addresses_loaded_by}
use Rattle.tm_model.specs.Owed.{have_room, status_at}
use Rattle.tm_model.specs.Setting.{Setting, outside_at, value_at}
use Rattle.tm_model.specs.Shown.{View, view_outside}
use Rattle.tm_model.specs.State.{Closed, Core, Midway, Pending, seen_memory, with_store}
use Rattle.tm_model.specs.Steps.{must_wait, needs_none, needs_room, settled, store_buffered, store_of, store_outside}
use Rattle.tm_model.specs.declared.outcome.Event.TheVariants as event
use Rattle.tm_core.specs.declared.ahead.Ahead.{Ahead}
use Rattle.tm_core.specs.declared.ahead.Ahead.TheVariants as ahead
use Rattle.tm_core.specs.declared.ahead.Pends.{Pends}
use Rattle.tm_core.specs.declared.buffering.Wait.{Wait}
use Rattle.tm_core.specs.declared.cpu.Cpu.{Cpu}
use Rattle.tm_core.specs.PendingStep.{PendingResult, core_like, drain_result, drains, settles, stepped_pending}
use Rattle.tm_core.specs.PendingStep.{touched_now}
use Rattle.tm_core.specs.Representation.{IsHeld, IsSound, IsStep, Sane, cpu_at, cpu_view, cpu_views}
use Rattle.tm_core.specs.Representation.{kept_after_hit, kept_at, kept_of, no_cpu, parts_setting, setting_with}
use Rattle.tm_core.specs.StepRefinement.{StepResult, Touched, addresses_touched, finished, grows}
use Rattle.tm_core.specs.StepRefinement.{loaded, quit, ran, ran_inside, ran_on, seen, stayed, stepped, stored}
use Rattle.tm_core.specs.StepRefinement.{view_after_hit, views_after}
use Rattle.tm_core.specs.Stepping.{HitsOthers, IsSteppable, StepsOnParts}
use Rattle.tm_core.specs.StoreBuffers.{Drains, IsAhead, IsForeseen, IsStorable, Leaves, StepsPending, WillPend}
use Rattle.tm_core.specs.Types.{AtStop, Begins, Capacity, Condemned, CoreState, Drained, Ends, Fails}
use Rattle.tm_core.specs.Types.{Goes}
use Rattle.tm_core.specs.Types.{GoesOn, InsideResult, Mid, Nests, Open, Outcome, OutsideResult, Plain, Read, Regs}
use Rattle.tm_core.specs.Types.{Running}
use Rattle.tm_core.specs.Types.{Stops, Store, Write}
use Rattle.tm_core.proofs.Aheads.{stepped_same}
use Rattle.tm_core.proofs.Cores.{held_after, held_as, hit_held_by, hit_views, nothing_else}
use Rattle.tm_core.proofs.OtherCores.{length-seen}

-- ---- a step that needs no wait and stores nothing leaves memory

module _ (k : Setting) (m : List ℕ) (v : View) where
  abbrev Stays : Core → StepResult → Type 0
  Stays core r = needs_none k core r.outcome ≡ false → store_outside k m core r.outcome ≡ None → r.memory ≡ m

  goes_stays : (t : Regs) (w : Option Store) → outside_at k v.base m ≡ Goes t w → (two : Bool)
      → Stays (Closed v.base)
      (cond two (loaded m (k.load_of v.base) v.base (value_at k v.base m)) (stored m (k.load_of v.base) t w))
  goes_stays t w is true free none = refl
  goes_stays t w is false free none =
      ap (λ (x : Option Store). memory_after m (stores_of x))
      (sym (ap store_of is) ∙ sym (ap (λ b. cond b None (store_of (outside_at k v.base m))) free) ∙ none)

  ran_stays : (o : OutsideResult) → outside_at k v.base m ≡ o → Stays (Closed v.base) (ran k m v.base o)
  ran_stays (Goes t w) is = goes_stays t w is (k.takes_two_steps v.base)
  ran_stays (Begins t) is = λ free none. refl
  ran_stays (Stops x) is = λ free none. refl

  on_stays : (o : OutsideResult) → k.outside v.base v.kept ≡ o → Stays (Midway v.base v.kept) (ran_on m v o)
  on_stays (Goes t w) is free none =
      ap (λ (x : Option Store). memory_after m (stores_of x)) (sym (ap store_of is) ∙ none)
  on_stays (Begins t) is free none = refl
  on_stays (Stops x) is free none = refl

  module _ (depth : ℕ) (loads : List ℕ) where
    abbrev like : Core
    like = core_like v (Open depth)

    room_stays : (next : View) (status : ℕ) (room : Bool)
        → (cond room (stayed m loads next) (quit k m v status)).memory ≡ m
    room_stays next status true = refl
    room_stays next status false = refl

    ends_stays : (next : View) (status : ℕ) (room last : Bool)
        → Stays like (cond room (cond last (finished m next) (stayed m loads next)) (quit k m v status))
    ends_stays next status true true free none = absurd (true≢false free)
    ends_stays next status true false free none = refl
    ends_stays next status false last free none = refl

    inside_stays : (o : InsideResult) → Stays like (ran_inside k m v depth loads o)
    inside_stays (GoesOn t w) =
        let next : View = grows v depth t loads (stores_of w) in
        λ free none. room_stays next (status_at Capacity depth) (have_room k next.reads next.writes)
    inside_stays (Nests t) =
        let next : View = grows v (depth + 1) t loads [] in
        λ free none. room_stays next (status_at Capacity depth) (have_room k next.reads next.writes)
    inside_stays (Ends t) =
        let next : View = grows v (depth - 1) t loads [] in
        ends_stays next (status_at Capacity depth) (have_room k next.reads next.writes) (nat_eq depth 1)
    inside_stays (Fails cause) = λ free none. refl

  stays : (mode : CoreState) → Stays (core_like v mode) (stepped k m v mode)
  stays Running = ran_stays (outside_at k v.base m) refl
  stays Mid = on_stays (k.outside v.base v.kept) refl
  stays (Open depth) =
      inside_stays depth (k.load_of v.regs)
      (k.inside v.regs depth (k.value_of v.regs (map (seen v.buffer m) (k.load_of v.regs))))
  stays (Condemned depth) = λ free none. refl
  stays (AtStop x) = λ free none. refl

-- a core waits for a store alone
pub waits_for : (k : Setting) (m : List ℕ) (p : Pending) (core : Core) (o : Outcome) → must_wait k m p core o ≡ true
    → 0 < length p
waits_for k m [] core o waits = absurd (true≢false (sym waits))
waits_for k m (oldest ∷ younger) core o waits = omega arith

pub foreseen_waits : (k : Setting) (m : List ℕ) (p : Pending) (v : View) (mode : CoreState) (for_this : Wait)
    → IsAhead k m p v mode (ahead.Waits for_this) → 0 < length p
foreseen_waits k m p v mode for_this awaited =
    waits_for k m p (core_like v mode) (stepped k m v mode).outcome awaited.waits

-- the oldest, and those behind it
pub oldest_of : (p p2 : Pending) (oldest : Store) → 0 < length p → oldest ≡ get_or p 0 oldest → p2 ≡ drop 1 p
    → p ≡ oldest ∷ p2
oldest_of [] p2 oldest some is left = absurd (omega arith)
oldest_of (first ∷ others) p2 oldest some is left = λ i. sym is i ∷ sym left i

pub others_storable : (size : ℕ) (p p2 : Pending) (oldest : Store) → p ≡ oldest ∷ p2 → All (IsStorable size) p
    → All (IsStorable size) p2
others_storable size p p2 oldest was all k d below =
    let here : All (IsStorable size) (oldest ∷ p2) = subst (All (IsStorable size)) was all in
    here (suc k) d (omega arith)

-- ---- what is left

abbrev no_store : Option Store
no_store = None

either_none : (t : Bool) → (if t then no_store else no_store) ≡ no_store
either_none true = refl
either_none false = refl

module _ (k : Setting) (m : List ℕ) (p : Pending) (v : View) where
  abbrev sees : List ℕ
  sees = seen_memory m p

  abbrev core : Core
  core = core_like v v.mode

  abbrev r : StepResult
  r = stepped k sees v v.mode

  abbrev settles_with : Option Store → PendingResult
  settles_with w = record {
    outcome = r.outcome;
    memory = (settled m p w (r.memory, core)).0;
    pending = (settled m p w (r.memory, core)).1.0;
    view = r.view;
    touched = touched_now w (addresses_loaded_by k sees core r.outcome) r.touched;
  }

  pub waits_is : must_wait k sees p core r.outcome ≡ true → stepped_pending None k m p v ≡ drains m p v
  waits_is waits = ap (λ t. if t then drains m p v else settles k m p v r) waits

  pub goes_is : (w : Option Store) → must_wait k sees p core r.outcome ≡ false
      → store_buffered k sees core r.outcome ≡ w → stepped_pending None k m p v ≡ settles_with w
  goes_is w goes store = ap (λ t. if t then drains m p v else settles k m p v r) goes ∙ ap settles_with store

  pub none_buffered : store_outside k sees core r.outcome ≡ None → store_buffered k sees core r.outcome ≡ None
  none_buffered none = ap (λ w. if nat_eq k.store_buffer 0 then None else w) none
      ∙ either_none (nat_eq k.store_buffer 0)

  pub one_buffered : (w : Store) → 0 < k.store_buffer → store_outside k sees core r.outcome ≡ Some w
      → store_buffered k sees core r.outcome ≡ Some w
  one_buffered w some one =
      ap (λ t. if t then None else store_outside k sees core r.outcome) (ne_eqb k.store_buffer 0 (omega arith)) ∙ one

  same_left : p ≡ (settled m p None (r.memory, core)).1.0
  same_left = left p
    where
      left : (q : Pending) → q ≡ (settled m q None (r.memory, core)).1.0
      left [] = refl
      left (oldest ∷ younger) = refl

  -- memory behind a step on memory as the core sees it, when its stores are taken off again
  pub memory_back : (n m2 : List ℕ) (under : Pending) → IsForeseen k sees p core r ahead.Goes → n ≡ r.memory
      → length under ≡ length p → seen_memory sees (reverse under) ≡ m → m2 ≡ seen_memory n (reverse under)
      → m2 ≡ (settled m p None (r.memory, core)).0
  memory_back n m2 under foreseen is count back taken =
      back_at p refl
    where
      none_under : (q : Pending) → length under ≡ length q → q ≡ [] → seen_memory n (reverse under) ≡ n
      none_under q same is_none =
          ap (λ u. seen_memory n (reverse u)) (nil_from_length under (same ∙ ap length is_none))

      back_at : (q : Pending) → p ≡ q → m2 ≡ (settled m q None (r.memory, core)).0
      back_at [] none = taken ∙ none_under p count none ∙ is
      back_at (oldest ∷ younger) some =
          let waits : must_wait k sees (oldest ∷ younger) core r.outcome ≡ false =
          subst (λ q. must_wait k sees q core r.outcome ≡ false) some foreseen.0 in
          let free : needs_none k core r.outcome ≡ false =
          (or_parts (needs_none k core r.outcome)
          (needs_room k (oldest ∷ younger) (store_outside k sees core r.outcome)) waits).0 in
          taken
          ∙ ap (λ l. seen_memory l (reverse under)) (is ∙ stays k sees v v.mode free foreseen.1)
          ∙ back

  -- what such a step leaves
  pub leaves_goes : (m2 : List ℕ) (views views2 : ℕ → View) (count c : ℕ) (o : Outcome) → views c ≡ v
      → IsForeseen k sees p core r ahead.Goes → o ≡ r.outcome → m2 ≡ (settled m p None (r.memory, core)).0
      → ((j : ℕ) → j < count → views2 j ≡ views_after views c r j)
      → Leaves (stepped_pending None k m p v) m2 p views views2 count c o
  leaves_goes m2 views views2 count c o own foreseen out memory each =
      subst (λ (q : PendingResult). Leaves q m2 p views views2 count c o)
      (sym (goes_is None foreseen.0 (none_buffered foreseen.1))) (record {
        outcome_is = out;
        new_memory = memory;
        left = same_left;
        each = each;
      })

  -- and one whose store is pending then
  pub leaves_stores : (pends : Pends) (p2 : Pending) (views views2 : ℕ → View) (count c : ℕ) → 0 < k.store_buffer
      → WillPend k sees p core r pends → p2 ≡ p ++ pends.store ∷ []
      → ((j : ℕ) → j < count → views2 j ≡ (if nat_eq j c then view_outside Running pends.regs
      else view_after_hit (addresses_touched Read (loaded_addresses pends.access)) (views j)))
      → Leaves (stepped_pending None k m p v) m p2 views views2 count c Plain
  leaves_stores pends p2 views views2 count c some will is each =
      subst (λ (q : PendingResult). Leaves q m p2 views views2 count c Plain)
      (sym (goes_is (Some pends.store) will.goes (one_buffered pends.store some will.store))) (record {
        outcome_is = sym will.outcome;
        new_memory = refl;
        left = is;
        each = λ j h. each j h
            ∙ ap (λ (u : View). if nat_eq j c then u
            else view_after_hit (addresses_touched Read (loaded_addresses pends.access)) (views j)) (sym will.view)
            ∙ ap (λ ls. if nat_eq j c then r.view else view_after_hit (addresses_touched Read ls) (views j))
            (sym will.loads);
      })

  -- a drain
  leaves_drain : (oldest : Store) (younger : Pending) (m2 : List ℕ) (views views2 : ℕ → View) (count c : ℕ)
      → m2 ≡ with_store m oldest
      → ((j : ℕ) → j < count → views2 j ≡ (if nat_eq j c then v
      else view_after_hit (addresses_touched Write (stored_addresses (stores_of (Some oldest)))) (views j)))
      → Leaves (drain_result m oldest younger v) m2 younger views views2 count c Drained
  leaves_drain oldest younger m2 views views2 count c memory each =
      record { outcome_is = refl; new_memory = memory; left = refl; each = each }

  pub leaves_waits : (oldest : Store) (younger : Pending) (m2 : List ℕ) (views views2 : ℕ → View) (count c : ℕ)
      → must_wait k sees p core r.outcome ≡ true → p ≡ oldest ∷ younger → m2 ≡ with_store m oldest
      → ((j : ℕ) → j < count → views2 j ≡ (if nat_eq j c then v
      else view_after_hit (addresses_touched Write (stored_addresses (stores_of (Some oldest)))) (views j)))
      → Leaves (stepped_pending None k m p v) m2 younger views views2 count c Drained
  leaves_waits oldest younger m2 views views2 count c waits is memory each =
      subst (λ (q : PendingResult). Leaves q m2 younger views views2 count c Drained)
      (sym (waits_is waits ∙ ap (λ q. drains m q v) is))
      (leaves_drain oldest younger m2 views views2 count c memory each)

  pub leaves_event : (oldest : Store) (younger : Pending) (m2 : List ℕ) (views views2 : ℕ → View) (count c : ℕ)
      → p ≡ oldest ∷ younger → m2 ≡ with_store m oldest
      → ((j : ℕ) → j < count → views2 j ≡ (if nat_eq j c then v
      else view_after_hit (addresses_touched Write (stored_addresses (stores_of (Some oldest)))) (views j)))
      → Leaves (stepped_pending (Some event.Drain) k m p v) m2 younger views views2 count c Drained
  leaves_event oldest younger m2 views views2 count c is memory each =
      subst (λ (q : Pending). Leaves (stepped_pending (Some event.Drain) k m q v) m2 younger views views2 count c
      Drained)
      (sym is) (leaves_drain oldest younger m2 views views2 count c memory each)

-- ---- the views behind it

-- of a core that has changed, and of the others, which this has hit
module _ (a b : Content) (cpus cpus3 : List Cpu) (c : ℕ) (x : Cpu) (touched : Touched) (below : c < length cpus)
    (hits : HitsOthers touched c a b (set cpus c x) cpus3) where
  kept : (j : ℕ) → j < length cpus
      → kept_at b cpus3 j
      ≡ cond (eqb j c) (kept_at a (set cpus c x) j) (kept_after_hit touched (kept_at a (set cpus c x) j))
  kept j h = hits.kept j (subst (λ n. j < n) (sym (length-set cpus c x)) h)

  pub views_behind : (j : ℕ) → j < length cpus → cpu_views b cpus3 j
      ≡ (if nat_eq j c then cpu_view a c x else view_after_hit touched (cpu_views a cpus j))
  views_behind =
      hit_views a a b cpus cpus3 c x
      (record { outcome = Plain; memory = []; view = cpu_view a c x; touched = touched }) below (nothing_else a c) kept
      refl

  pub held_behind : (room : ℕ) → ((j : ℕ) → j < length cpus → IsHeld room (kept_at a cpus j))
      → IsHeld room (kept_of a c x) → (j : ℕ) → j < length cpus → IsHeld room (kept_at b cpus3 j)
  held_behind room before own j h =
      hit_held_by room (eqb j c) touched (kept_at a (set cpus c x) j) (kept_at b cpus3 j) (kept j h)
      (held_after room a a cpus c x below (nothing_else a c) before own j h)

-- of cores of which none has changed
pub hits_as_set : (a b : Content) (cpus cpus3 : List Cpu) (c : ℕ) (touched : Touched)
    → HitsOthers touched c a b cpus cpus3 → HitsOthers touched c a b (set cpus c (cpu_at cpus c)) cpus3
hits_as_set a b cpus cpus3 c touched =
    subst (λ (xs : List Cpu). HitsOthers touched c a b xs cpus3) (sym (set-get_or cpus c no_cpu))

-- ---- a step of the parts

-- what a step asks of them, of memory of the same size
pub parts_like : (code : List ℕ) (base : ℕ) (m n : List ℕ) (a : Content) (cpus : List Cpu) → length n ≡ length m
    → IsSteppable code base m a cpus → IsSteppable code base n a cpus
parts_like code base m n a cpus same parts = record {
  few = parts.few;
  small = subst (λ z. z < 2 ^ 32) (sym same) parts.small;
  known = parts.known;
  within = subst (λ z. z ≤ a.fixed.line_count * 64) (sym same) parts.within;
  sound = subst (λ z. IsSound (parts_setting code base z a) a cpus) (sym same) parts.sound;
}

-- a core outside of a transaction, with other registers
plain_view : (k : Setting) (seen : List ℕ) (a : Content) (c : ℕ) (x : Cpu) (regs : Regs) (o : Outcome) (w : Store)
    (k2 : Setting) (mode : CoreState) → Sane k2 (cpu_view a c x) mode
    → store_outside k seen (core_like (cpu_view a c x) mode) o ≡ Some w
    → cpu_view a c (record x { base = regs; state = Running }) ≡ view_outside Running regs
plain_view k seen a c x regs o w k2 Running sane store = λ i. record {
  mode = Running;
  base = regs;
  regs = regs;
  kept = 0;
  buffer = ap (λ (u : View). u.buffer) sane i;
  reads = ap (λ (u : View). u.reads) sane i;
  writes = ap (λ (u : View). u.writes) sane i;
}
plain_view k seen a c x regs o w k2 Mid sane store = λ i. record {
  mode = Running;
  base = regs;
  regs = regs;
  kept = 0;
  buffer = ap (λ (u : View). u.buffer) sane.0 i;
  reads = ap (λ (u : View). u.reads) sane.0 i;
  writes = ap (λ (u : View). u.writes) sane.0 i;
}
plain_view k seen a c x regs o w k2 (Open depth) sane store = cc
plain_view k seen a c x regs o w k2 (Condemned depth) sane store = cc
plain_view k seen a c x regs o w k2 (AtStop stop) sane store = cc

module _ (code : List ℕ) (base most : ℕ) (m : List ℕ) (a b : Content) (cpus cpus2 : List Cpu) (p : Pending) (c : ℕ)
    (parts : IsSteppable code base m a cpus) (below : c < length cpus) where
  abbrev rules : ℕ → Setting
  rules size = setting_with code base size a most

  abbrev own : View
  own = cpu_views a cpus c

  same_size : length (seen_memory m p) ≡ length m
  same_size = length-seen m p

  -- what was foreseen on memory as the core sees it
  pub foreseen_at : (n : List ℕ) (x : Ahead) → n ≡ seen_memory m p
      → IsAhead (rules (length n)) n p own (cpu_at cpus c).state x
      → IsForeseen (rules (length m)) (seen_memory m p) p (core_like own own.mode)
      (stepped (rules (length m)) (seen_memory m p) own own.mode) x
  foreseen_at n x is foreseen =
      subst (λ z. IsAhead (rules z) (seen_memory m p) p own own.mode x) same_size
      (subst (λ l. IsAhead (rules (length l)) l p own own.mode x) is foreseen)

  -- it was made there
  pub steps_there : (n n2 m2 : List ℕ) (under : Pending) (o : Outcome) → n ≡ seen_memory m p
      → IsAhead (rules (length n)) n p own (cpu_at cpus c).state ahead.Goes
      → StepsOnParts code base n n2 a b cpus cpus2 c o → seen_memory n (reverse under) ≡ m → length under ≡ length p
      → m2 ≡ seen_memory n2 (reverse under) → StepsPending None code base most m m2 a b cpus cpus2 p p c o
  steps_there n n2 m2 under o is foreseen made back count taken =
      let k : Setting = rules (length m) in
      let here : IsForeseen k (seen_memory m p) p (core_like own own.mode) (stepped k (seen_memory m p) own own.mode)
      ahead.Goes = foreseen_at n ahead.Goes is foreseen in
      let step : IsStep (parts_setting code base (length m) a) (seen_memory m p) (cpu_views a cpus) (length cpus) c o n2
      (cpu_views b cpus2) =
      subst (λ z. IsStep (parts_setting code base z a) (seen_memory m p) (cpu_views a cpus) (length cpus) c o n2
      (cpu_views b cpus2)) same_size
      (subst (λ l. IsStep (parts_setting code base (length l) a) l (cpu_views a cpus) (length cpus) c o n2
      (cpu_views b cpus2)) is made.step) in
      let same : stepped (parts_setting code base (length m) a) (seen_memory m p) own own.mode
      ≡ stepped k (seen_memory m p) own own.mode =
      sym (stepped_same code base (length m) a most (seen_memory m p) own own.mode) in
      record {
        step = leaves_goes k m p own m2 (cpu_views a cpus) (cpu_views b cpus2) (length cpus) c o refl here
            (step.outcome_is ∙ ap (λ (r : StepResult). r.outcome) same)
            (memory_back k m p own n2 m2 under here (step.new_memory ∙ ap (λ (r : StepResult). r.memory) same) count
            (subst (λ l. seen_memory l (reverse under) ≡ m) is back) taken)
            (λ j h. step.each j h ∙ ap (λ (r : StepResult). views_after (cpu_views a cpus) c r j) same);
        held = made.held;
        fixed = made.fixed;
      }

  -- its store is pending now
  pub steps_with_store : (n : List ℕ) (pends : Pends) (p2 : Pending) → n ≡ seen_memory m p → 0 < most
      → IsAhead (rules (length n)) n p own (cpu_at cpus c).state (ahead.Stores pends)
      → HitsOthers (addresses_touched Read (loaded_addresses pends.access)) c a b
      (set cpus c (record (cpu_at cpus c) { base = pends.regs; state = Running })) cpus2 → p2 ≡ p ++ pends.store ∷ []
      → StepsPending None code base most m m a b cpus cpus2 p p2 c Plain
  steps_with_store n pends p2 is some foreseen hits left =
      let k : Setting = rules (length m) in
      let x : Cpu = record (cpu_at cpus c) { base = pends.regs; state = Running } in
      let touched : Touched = addresses_touched Read (loaded_addresses pends.access) in
      let will : WillPend k (seen_memory m p) p (core_like own own.mode) (stepped k (seen_memory m p) own own.mode)
      pends = foreseen_at n (ahead.Stores pends) is foreseen in
      let shows : cpu_view a c x ≡ view_outside Running pends.regs =
      plain_view k (seen_memory m p) a c (cpu_at cpus c) pends.regs _ pends.store
      (parts_setting code base (length m) a) (cpu_at cpus c).state (parts.sound.sane c below) will.store in
      record {
        step = leaves_stores k m p own pends p2 (cpu_views a cpus) (cpu_views b cpus2) (length cpus) c some will left
            (λ j h. views_behind a b cpus cpus2 c x touched below hits j h
            ∙ ap (λ (u : View). if nat_eq j c then u else view_after_hit touched (cpu_views a cpus j)) shows);
        held = held_behind a b cpus cpus2 c x touched below hits (a.fixed.room Write) parts.sound.held
            (held_as (a.fixed.room Write) a a c (cpu_at cpus c) x refl refl refl (parts.sound.held c below));
        fixed = hits.fixed;
      }

  -- a drain
  drain_held : (m2 : List ℕ) (p2 : Pending) (drains : Drains m m2 a b cpus cpus2 p p2 c) → (j : ℕ) → j < length cpus
      → IsHeld (a.fixed.room Write) (kept_at b cpus2 j)
  drain_held m2 p2 drains =
      let touched : Touched = addresses_touched Write (stored_addresses (stores_of (Some drains.oldest))) in
      held_behind a b cpus cpus2 c (cpu_at cpus c) touched below (hits_as_set a b cpus cpus2 c touched drains.hits)
      (a.fixed.room Write) parts.sound.held (parts.sound.held c below)

  drain_views : (m2 : List ℕ) (p2 : Pending) (drains : Drains m m2 a b cpus cpus2 p p2 c) → (j : ℕ) → j < length cpus
      → cpu_views b cpus2 j ≡ (if nat_eq j c then own
      else view_after_hit (addresses_touched Write (stored_addresses (stores_of (Some drains.oldest))))
      (cpu_views a cpus j))
  drain_views m2 p2 drains =
      let touched : Touched = addresses_touched Write (stored_addresses (stores_of (Some drains.oldest))) in
      views_behind a b cpus cpus2 c (cpu_at cpus c) touched below (hits_as_set a b cpus cpus2 c touched drains.hits)

  -- in the place of a step that waits
  pub waits_and_drains : (n m2 : List ℕ) (p2 : Pending) (for_this : Wait) → n ≡ seen_memory m p
      → IsAhead (rules (length n)) n p own (cpu_at cpus c).state (ahead.Waits for_this)
      → Drains m m2 a b cpus cpus2 p p2 c → StepsPending None code base most m m2 a b cpus cpus2 p p2 c Drained
  waits_and_drains n m2 p2 for_this is foreseen drains = record {
    step = leaves_waits (rules (length m)) m p own drains.oldest p2 m2 (cpu_views a cpus) (cpu_views b cpus2)
        (length cpus) c (foreseen_at n (ahead.Waits for_this) is foreseen).waits drains.was drains.new_memory
        (drain_views m2 p2 drains);
    held = drain_held m2 p2 drains;
    fixed = drains.hits.fixed;
  }

  -- under its event
  pub drains_by_event : (m2 : List ℕ) (p2 : Pending) → Drains m m2 a b cpus cpus2 p p2 c
      → StepsPending (Some event.Drain) code base most m m2 a b cpus cpus2 p p2 c Drained
  drains_by_event m2 p2 drains = record {
    step = leaves_event (rules (length m)) m p own drains.oldest p2 m2 (cpu_views a cpus) (cpu_views b cpus2)
        (length cpus) c drains.was drains.new_memory (drain_views m2 p2 drains);
    held = drain_held m2 p2 drains;
    fixed = drains.hits.fixed;
  }
