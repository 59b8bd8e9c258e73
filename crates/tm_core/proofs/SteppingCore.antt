-- The core that steps: what it shows behind the step is what the model makes of it, whether it runs in a transaction,
-- in none, commits or aborts.
use Rattle.std.proofs.Common.{◌≡◌, ℕ, zero, suc, ◌+◌, ◌-◌, Bool, true, false, cond, eqb, List, [], ◌++◌, length, Option}
use Rattle.std.proofs.Common.{Some, None, refl, sym, ap, ◌∙◌, subst, arith}
use Rattle.std.proofs.lemmas.Bool.{eqb-true, eqb-false, eq-eqb, ne_eqb}
use Rattle.std.specs.Prelude.{option_and_then}
use Rattle.std.proofs.lemmas.Option.{option_and_then_some, same_Some}
use Rattle.std.proofs.lemmas.List.{map-append}
use Rattle.tm_model.specs.Access.{Stores, lines_of, memory_after, stored_addresses, stores_of}
use Rattle.tm_model.specs.Conflicts.{addresses_loaded_after, addresses_loaded_by, addresses_stored_by}
use Rattle.tm_model.specs.Conflicts.{addresses_stored_inside, addresses_stored_outside, doom_after_own}
use Rattle.tm_model.specs.Isolated.{Body, first_body, instruction_after, isolated_body, longer_body, next_body}
use Rattle.tm_model.specs.Isolated.{read_set, write_set}
use Rattle.tm_model.specs.Owed.{abort_by, cause_of_interference, depth_of, have_room, owed_after, owed_inside}
use Rattle.tm_model.specs.Owed.{owed_outcome}
use Rattle.tm_model.specs.Owed.{owed_outside, owed_under, status_at}
use Rattle.tm_model.specs.Setting.{Setting, outside_at, value_at}
use Rattle.tm_model.specs.Shown.{View, view_between, view_inside, view_midway, view_of, view_of_body, view_outside}
use Rattle.tm_model.specs.State.{Closed, Core, Halted, Midway, Opened}
use Rattle.tm_model.specs.Steps.{after_begin, after_commit, after_load, after_plain, after_step_of, after_stop}
use Rattle.tm_model.specs.Steps.{registers_after_abort, stop_number}
use Rattle.tm_model.specs.declared.outcome.Event.TheVariants as event
use Rattle.tm_core.specs.StepRefinement.{StepResult, ended, finished, grows, if_room, lines_hit, quit, quit_by, ran}
use Rattle.tm_core.specs.StepRefinement.{ran_inside, stayed, stepped, stepped_under}
use Rattle.tm_core.specs.Types.{Aborted, AtStop, Begins, Capacity, Committed, Condemned, Conflict, Ends, Event, Fails}
use Rattle.tm_core.specs.Types.{Goes, GoesOn, Inside, InsideResult, Interference, Loaded, Mid, Nests, Open, Outcome}
use Rattle.tm_core.specs.Types.{OutsideResult, Plain}
use Rattle.tm_core.specs.Types.{Regs, Running, Stop, Stops, Store}
use Rattle.tm_core.proofs.BufferLemmas.{InRange-append, add_all-lines, both_hit, memory_with-memory_after, hits}
use Rattle.tm_core.proofs.BufferLemmas.{items_hit, loads_alone_hit, map_seen, with_bytes-buffer_of}
use Rattle.tm_core.proofs.Frame.{longer_body-next_body}
use Rattle.tm_core.proofs.OtherCores.{view_inside_at, view_inside_is}
use Rattle.tm_core.proofs.Sound.{InRange, Sound}
use Rattle.tm_core.specs.StepRefinement.{loaded, ran_on, stored}

-- what a right step of core x under an event, or under none, does, where no store is pending: the owed outcome, a step
-- that the rules allow, and the core's own view after it
pub record Own (event : Option Event) (k : Setting) (m : List ℕ) (x : Core) (dx : Option ℕ)
    (r : StepResult) : Type 0 where
  pub owes : r.outcome ≡ owed_under event k m [] x dx
  pub next : Core
  pub stores : Stores
  pub moves : after_step_of k m x r.outcome ≡ Some (memory_after m stores, next)
  pub memory : r.memory ≡ memory_after m stores
  pub shows : view_of k (memory_after m stores) next (doom_after_own r.outcome dx) ≡ Some r.view
  pub wrote : stored_addresses stores ≡ addresses_stored_by k m x r.outcome
  pub loads : List ℕ
  pub loaded : loads ≡ addresses_loaded_by k m x r.outcome
  pub touch : (v : View) → lines_hit v.reads v.writes r.touched ≡ hits v.reads v.writes loads (stored_addresses stores)

same_number : (x : Stop) → eqb (stop_number x) (stop_number x) ≡ true
same_number x = eq-eqb (stop_number x) (stop_number x) refl

-- ---- bodies

pub isolated_body-suc : (k : Setting) (s : Regs) (m : List ℕ) (n : ℕ) (b : Body) → isolated_body k s m n ≡ Some b
    → isolated_body k s m (suc n) ≡ longer_body k m b
isolated_body-suc k s m zero b e = cc
isolated_body-suc k s m (suc n) b e = ap (option_and_then (longer_body k m)) e

pub deep : (k : Setting) (m : List ℕ) (b : Body) → eqb b.depth 0 ≡ false
    → longer_body k m b ≡ next_body b (k.load_of b.regs) (instruction_after k m b)
deep k m b e = ap (λ t. cond t None (next_body b (k.load_of b.regs) (instruction_after k m b))) e

first_body-range : (k : Setting) (ps : List ℕ) (o : OutsideResult) (b : Body) → first_body ps o ≡ Some b
    → InRange k.size b.stores
first_body-range k ps (Goes s w) b e = cc
first_body-range k ps (Begins s) b e =
    let e2 : ◌≡◌ {A = Body} (record { regs = s; depth = 1; stores = []; loads = ps }) b = cc in
    subst (λ (x : Body). InRange k.size x.stores) e2 tt
first_body-range k ps (Stops x) b e = cc

next_body-range : (k : Setting) → Sound k → (x : Body) (value : ℕ) (ps : List ℕ) (o : InsideResult) (b : Body)
    → k.inside x.regs x.depth value ≡ o → InRange k.size x.stores → next_body x ps o ≡ Some b → InRange k.size b.stores
next_body-range k sound x value ps (GoesOn s w) b is h e = let e2 :
    ◌≡◌ {A = Body} (record { regs = s; depth = x.depth; stores = stores_of w ++ x.stores; loads = ps ++ x.loads }) b =
    cc in subst (λ (x : Body). InRange k.size x.stores) e2
    (InRange-append k.size (stores_of w) x.stores (sound.goes_on x.regs x.depth value s w is) h)
next_body-range k sound x value ps (Nests s) b is h e =
    let e2 : ◌≡◌ {A = Body} (record { regs = s; depth = x.depth + 1; stores = x.stores; loads = ps ++ x.loads }) b =
    cc in subst (λ (x : Body). InRange k.size x.stores) e2 h
next_body-range k sound x value ps (Ends s) b is h e =
    let e2 : ◌≡◌ {A = Body} (record { regs = s; depth = x.depth - 1; stores = x.stores; loads = ps ++ x.loads }) b =
    cc in subst (λ (x : Body). InRange k.size x.stores) e2 h
next_body-range k sound x value ps (Fails cause) b is h e = cc

-- a body stores below the memory's size
pub isolated_body-range : (k : Setting) → Sound k
    → (s : Regs) (m : List ℕ) (n : ℕ) (b : Body) → isolated_body k s m n ≡ Some b → InRange k.size b.stores
isolated_body-range k sound s m zero b e = cc
isolated_body-range k sound s m (suc zero) b e = first_body-range k (k.load_of s) (outside_at k s m) b e
isolated_body-range k sound s m (suc (suc n)) b e =
    option_and_then_some (longer_body k m) (isolated_body k s m (suc n)) b e (λ x e1 e2.
    next_body-range k sound x (value_at k x.regs (memory_after m x.stores)) (k.load_of x.regs) (instruction_after k m x)
    b refl (isolated_body-range k sound s m (suc n) x e1) (longer_body-next_body k m x b e2))

-- ---- outside

module _ (k : Setting) (sound : Sound k) (m : List ℕ) (s : Regs) where
  abbrev value : ℕ
  value = value_at k s m

  own_goes : (two : Bool) (t : Regs) (w : Option Store) → k.takes_two_steps s ≡ two → outside_at k s m ≡ Goes t w
      → Own None k m (Closed s) None (cond two (loaded m (k.load_of s) s value) (stored m (k.load_of s) t w))
  own_goes false t w one e = record {
    owes = sym (ap (owed_outside (k.takes_two_steps s)) e ∙ ap (λ u. cond u Loaded Plain) one);
    next = Closed t;
    stores = stores_of w;
    moves = ap (λ u. cond u None (after_plain m (outside_at k s m))) one ∙ ap (after_plain m) e;
    memory = refl;
    shows = refl;
    wrote = sym (ap addresses_stored_outside e);
    loads = k.load_of s;
    loaded = refl;
    touch = λ v. both_hit v.reads v.writes (k.load_of s) (stored_addresses (stores_of w));
  }
  own_goes true t w two e = record {
    owes = sym (ap (owed_outside (k.takes_two_steps s)) e ∙ ap (λ u. cond u Loaded Plain) two);
    next = Midway s value;
    stores = [];
    moves = ap (λ u. cond u (after_load m s value (outside_at k s m)) None) two ∙ ap (after_load m s value) e;
    memory = refl;
    shows = ap (view_midway s value) e;
    wrote = refl;
    loads = k.load_of s;
    loaded = refl;
    touch = λ v. both_hit v.reads v.writes (k.load_of s) [];
  }

  own_closed : (o : OutsideResult) → outside_at k s m ≡ o → Own None k m (Closed s) None (ran k m s o)
  own_closed (Goes t w) e = own_goes (k.takes_two_steps s) t w refl e
  own_closed (Begins t) e = record {
    owes = sym (ap (owed_outside (k.takes_two_steps s)) e);
    next = Opened s 1;
    stores = [];
    moves = ap (after_begin m s) e;
    memory = refl;
    shows = ap (λ o. option_and_then (view_inside s) (first_body (k.load_of s) o)) e
        ∙ ap (λ ps. Some (view_of_body s (record { regs = t; depth = 1; stores = []; loads = ps })))
        (sound.begins s (value_at k s m) t e);
    wrote = refl;
    loads = [];
    loaded = refl;
    touch = λ v. refl;
  }
  own_closed (Stops x) e = record {
    owes = sym (ap (owed_outside (k.takes_two_steps s)) e);
    next = Halted s x;
    stores = [];
    moves = ap (after_stop m s x) e ∙ ap (λ t. cond t (Some (m, Halted s x)) None) (same_number x);
    memory = refl;
    shows = refl;
    wrote = refl;
    loads = [];
    loaded = refl;
    touch = λ v. refl;
  }

-- ---- between the two steps of an instruction

own_midway : (k : Setting) (m : List ℕ) (s : Regs) (value : ℕ) (v : View) (o : OutsideResult) → k.outside s value ≡ o
    → view_midway s value o ≡ Some v → Own None k m (Midway s value) None (stepped k m v v.mode)
own_midway k m s value v (Goes t w) e is =
    subst (λ (u : View). Own None k m (Midway s value) None (stepped k m u u.mode))
    (same_Some (view_between s value) v is)
    (subst (λ o. Own None k m (Midway s value) None (ran_on m (view_between s value) o)) (sym e) (record {
      owes = refl;
      next = Closed t;
      stores = stores_of w;
      moves = ap (after_plain m) e;
      memory = refl;
      shows = refl;
      wrote = sym (ap addresses_stored_outside e);
      loads = [];
      loaded = refl;
      touch = λ u. both_hit u.reads u.writes [] (stored_addresses (stores_of w));
    }))
own_midway k m s value v (Begins t) e is = cc
own_midway k m s value v (Stops x) e is = cc

-- ---- inside

pub grown_view : (s : Regs) (b : Body) (depth : ℕ) (t : Regs) (ps : List ℕ) (ws : Stores)
    → grows (view_of_body s b) depth t ps ws
    ≡ view_of_body s (record { regs = t; depth = depth; stores = ws ++ b.stores; loads = ps ++ b.loads })
grown_view s b depth t ps ws = λ i. record {
  mode = Open depth;
  base = s;
  regs = t;
  kept = 0;
  buffer = with_bytes-buffer_of b.stores ws i;
  reads = add_all-lines b.loads ps i;
  writes = (add_all-lines (stored_addresses b.stores) (stored_addresses ws)
      ∙ ap lines_of (sym (map-append (λ (w : ℕ × ℕ). w.0) ws b.stores))) i;
}

module _ (k : Setting) (sound : Sound k) (m : List ℕ) (size : length m ≡ k.size) (s : Regs) (n : ℕ) (b : Body)
    (is : isolated_body k s m n ≡ Some b) (deep0 : eqb b.depth 0 ≡ false) where
  abbrev owing : Outcome
  owing = owed_outcome k m (Opened s n) None

  abbrev loads : List ℕ
  loads = k.load_of b.regs

  is_next_body : (b2 : Body) → next_body b loads (instruction_after k m b) ≡ Some b2
      → isolated_body k s m (suc n) ≡ Some b2
  is_next_body b2 e = isolated_body-suc k s m n b is ∙ deep k m b deep0 ∙ e

  ranged : (b2 : Body) → next_body b loads (instruction_after k m b) ≡ Some b2 → InRange (length m) b2.stores
  ranged b2 e =
      subst (λ z. InRange z b2.stores) (sym size) (isolated_body-range k sound s m (suc n) b2 (is_next_body b2 e))

  stay : (b2 : Body) → next_body b loads (instruction_after k m b) ≡ Some b2 → eqb b2.depth 0 ≡ false
      → (new : View) → new ≡ view_of_body s b2 → owing ≡ Inside → Own None k m (Opened s n) None (stayed m loads new)
  stay b2 e deep2 new shape owes = record {
    owes = sym owes;
    next = Opened s (suc n);
    stores = [];
    moves = refl;
    memory = refl;
    shows = ap (option_and_then (view_inside s)) (is_next_body b2 e) ∙ view_inside_at s b2 deep2 ∙ ap Some (sym shape);
    wrote = refl;
    loads = loads;
    loaded = sym (ap (addresses_loaded_after k) is);
    touch = λ v. loads_alone_hit v.reads v.writes loads;
  }

  commit : (b2 : Body) → next_body b loads (instruction_after k m b) ≡ Some b2 → eqb b2.depth 0 ≡ true
      → (new : View) → new ≡ view_of_body s b2 → owing ≡ Committed → Own None k m (Opened s n) None (finished m new)
  commit b2 e over new shape owes = subst (λ v. Own None k m (Opened s n) None (finished m v)) (sym shape) (record {
    owes = sym owes;
    next = Closed b2.regs;
    stores = b2.stores;
    moves = ap (option_and_then (after_commit m)) (is_next_body b2 e)
        ∙ ap (λ t. cond t (Some (memory_after m b2.stores, Closed b2.regs)) None) over;
    memory = memory_with-memory_after m b2.stores (ranged b2 e);
    shows = refl;
    wrote = sym (ap addresses_stored_inside (is_next_body b2 e));
    loads = [];
    loaded = refl;
    touch = λ v. items_hit v.reads v.writes (write_set b2) (stored_addresses b2.stores) refl;
  })

  leave : (code : ℕ) → owing ≡ Aborted code → Own None k m (Opened s n) None (quit k m (view_of_body s b) code)
  leave code owes = record {
    owes = sym owes;
    next = Closed (registers_after_abort k s code);
    stores = [];
    moves = refl;
    memory = refl;
    shows = refl;
    wrote = refl;
    loads = [];
    loaded = refl;
    touch = λ v. refl;
  }

  split : (b2 : Body) (new : View) → new ≡ view_of_body s b2
      → (o : Outcome) → owing ≡ cond (have_room k (read_set b2) (write_set b2)) o (Aborted (status_at Capacity b.depth))
      → (r : StepResult) → (owing ≡ o → Own None k m (Opened s n) None r)
      → Own None k m (Opened s n) None (if_room k m (view_of_body s b) b.depth new r)
  split b2 new shape o owes r right =
      subst (λ (v : View). Own None k m (Opened s n) None
      (cond (have_room k v.reads v.writes) r (quit k m (view_of_body s b) (status_at Capacity b.depth)))) (sym shape)
      ((elim (have_room k (read_set b2) (write_set b2))
      as (λ t. owing ≡ cond t o (Aborted (status_at Capacity b.depth))
      → Own None k m (Opened s n) None (cond t r (quit k m (view_of_body s b) (status_at Capacity b.depth)))) [
        | true ↦ λ e. right e
        | false ↦ λ e. leave (status_at Capacity b.depth) e
      ]) owes)

  owing_is : (o : InsideResult) → instruction_after k m b ≡ o → owing ≡ owed_inside k b o
  owing_is o e = ap (owed_after k m) is ∙ ap (owed_inside k b) e

  pub own_open : (o : InsideResult) → instruction_after k m b ≡ o
      → Own None k m (Opened s n) None (ran_inside k m (view_of_body s b) b.depth loads o)
  own_open (GoesOn t w) e =
      let b2 : Body =
      record { regs = t; depth = b.depth; stores = stores_of w ++ b.stores; loads = loads ++ b.loads } in
      let new : View = grows (view_of_body s b) b.depth t loads (stores_of w) in
      let shape : new ≡ view_of_body s b2 = grown_view s b b.depth t loads (stores_of w) in
      split b2 new shape Inside (owing_is (GoesOn t w) e) (stayed m loads new)
      (λ owes. stay b2 (ap (next_body b loads) e) deep0 new shape owes)
  own_open (Nests t) e =
      let b2 : Body = record { regs = t; depth = b.depth + 1; stores = b.stores; loads = loads ++ b.loads } in
      let new : View = grows (view_of_body s b) (b.depth + 1) t loads [] in
      let shape : new ≡ view_of_body s b2 = grown_view s b (b.depth + 1) t loads [] in
      split b2 new shape Inside (owing_is (Nests t) e) (stayed m loads new)
      (λ owes. stay b2 (ap (next_body b loads) e) (ne_eqb (b.depth + 1) 0 (λ h. omega arith)) new shape owes)
  own_open (Ends t) e =
      let b2 : Body = record { regs = t; depth = b.depth - 1; stores = b.stores; loads = loads ++ b.loads } in
      let new : View = grows (view_of_body s b) (b.depth - 1) t loads [] in
      let shape : new ≡ view_of_body s b2 = grown_view s b (b.depth - 1) t loads [] in
      let not_zero : b.depth ≡ 0 → ⊥ = eqb-false b.depth 0 deep0 in
      split b2 new shape (cond (eqb b.depth 1) Committed Inside) (owing_is (Ends t) e) (ended m loads new b.depth)
      ((elim (eqb b.depth 1)
      as (λ u. eqb b.depth 1 ≡ u → owing ≡ cond u Committed Inside
      → Own None k m (Opened s n) None (cond u (finished m new) (stayed m loads new))) [
        | true ↦ λ one owes. let one2 : b.depth ≡ 1 = eqb-true b.depth 1 one in
            commit b2 (ap (next_body b loads) e) (eq-eqb (b.depth - 1) 0 (omega arith)) new shape owes
        | false ↦ λ more owes. let more2 : b.depth ≡ 1 → ⊥ = eqb-false b.depth 1 more in
            stay b2 (ap (next_body b loads) e) (ne_eqb (b.depth - 1) 0 (λ h. omega arith)) new shape owes
      ]) refl)
  own_open (Fails cause) e = leave (status_at cause b.depth) (owing_is (Fails cause) e)

-- ---- any core

pub own : (k : Setting) → Sound k → (m : List ℕ) → length m ≡ k.size
    → (x : Core) (dx : Option ℕ) (v : View) → view_of k m x dx ≡ Some v → Own None k m x dx (stepped k m v v.mode)
own k sound m size (Closed s) None v e = subst (λ (u : View). Own None k m (Closed s) None (stepped k m u u.mode))
    (same_Some (view_outside Running s) v e) (own_closed k sound m s (outside_at k s m) refl)
own k sound m size (Closed s) (Some depth) v e = cc
own k sound m size (Midway s value) None v e = own_midway k m s value v (k.outside s value) refl e
own k sound m size (Midway s value) (Some depth) v e = cc
own k sound m size (Halted s x) None v e = subst (λ (u : View). Own None k m (Halted s x) None (stepped k m u u.mode))
    (same_Some (view_outside (AtStop x) s) v e) (record {
      owes = refl;
      next = Halted s x;
      stores = [];
      moves = refl;
      memory = refl;
      shows = refl;
      wrote = refl;
      loads = [];
      loaded = refl;
      touch = λ u. refl;
    })
own k sound m size (Halted s x) (Some depth) v e = cc
own k sound m size (Opened s n) (Some depth) v e =
    subst (λ (u : View). Own None k m (Opened s n) (Some depth) (stepped k m u u.mode))
    (same_Some (view_outside (Condemned depth) s) v e) (record {
      owes = refl;
      next = Closed (registers_after_abort k s (status_at Conflict depth));
      stores = [];
      moves = refl;
      memory = refl;
      shows = refl;
      wrote = refl;
      loads = [];
      loaded = refl;
      touch = λ u. refl;
    })
own k sound m size (Opened s n) None v e =
    option_and_then_some (view_inside s) (isolated_body k s m n) v e (λ b is e2.
    let parts : (eqb b.depth 0 ≡ false) × (view_of_body s b ≡ v) = view_inside_is s b v e2 in
    subst (λ (u : View). Own None k m (Opened s n) None (stepped k m u u.mode)) parts.1
    (subst (λ bs. Own None k m (Opened s n) None
    (ran_inside k m (view_of_body s b) b.depth (k.load_of b.regs) (k.inside b.regs b.depth (k.value_of b.regs bs))))
    (sym (map_seen m b.stores (k.load_of b.regs)
    (subst (λ z. InRange z b.stores) (sym size) (isolated_body-range k sound s m n b is))))
    (own_open k sound m size s n b is parts.0 (instruction_after k m b) refl)))

-- ---- under an event

-- where the event befalls nothing
as_event : (event : Option Event) (k : Setting) (m : List ℕ) (x : Core) (dx : Option ℕ) (r : StepResult)
    → owed_under event k m [] x dx ≡ owed_outcome k m x dx → Own None k m x dx r → Own event k m x dx r
as_event event k m x dx r same o = record {
  owes = o.owes ∙ sym same;
  next = o.next;
  stores = o.stores;
  moves = o.moves;
  memory = o.memory;
  shows = o.shows;
  wrote = o.wrote;
  loads = o.loads;
  loaded = o.loaded;
  touch = o.touch;
}

-- where it aborts the transaction
left_by : (by : Interference) (k : Setting) (m : List ℕ) (s : Regs) (n : ℕ) (b : Body) → isolated_body k s m n ≡ Some b
    → Own (Some (event.Abort by)) k m (Opened s n) None
    (quit_by by k m (view_of_body s b) (status_at (cause_of_interference by) b.depth))
left_by by k m s n b is = record {
  owes = sym (ap (λ (body : Option Body). abort_by by (depth_of body)) is);
  next = Closed (registers_after_abort k s (status_at (cause_of_interference by) b.depth));
  stores = [];
  moves = refl;
  memory = refl;
  shows = refl;
  wrote = refl;
  loads = [];
  loaded = refl;
  touch = λ v. refl;
}

between_is : (s : Regs) (value : ℕ) (o : OutsideResult) (v : View) → view_midway s value o ≡ Some v
    → view_between s value ≡ v
between_is s value (Goes t w) v e = same_Some (view_between s value) v e
between_is s value (Begins t) v e = cc
between_is s value (Stops x) v e = cc

pub own_under : (event : Option Event) (k : Setting) → Sound k → (m : List ℕ) → length m ≡ k.size → (x : Core)
    (dx : Option ℕ) (v : View) → view_of k m x dx ≡ Some v → Own event k m x dx (stepped_under event k m v v.mode)
own_under None k sound m size x dx v e = own k sound m size x dx v e
own_under (Some event.Drain) k sound m size x dx v e =
    as_event (Some event.Drain) k m x dx (stepped k m v v.mode) refl (own k sound m size x dx v e)
own_under (Some (event.Abort by)) k sound m size (Closed s) None v e =
    subst
    (λ (u : View). Own (Some (event.Abort by)) k m (Closed s) None (stepped_under (Some (event.Abort by)) k m u u.mode))
    (same_Some (view_outside Running s) v e)
    (as_event (Some (event.Abort by)) k m (Closed s) None (stepped k m (view_outside Running s) Running) refl
    (own k sound m size (Closed s) None (view_outside Running s) refl))
own_under (Some (event.Abort by)) k sound m size (Closed s) (Some depth) v e = cc
own_under (Some (event.Abort by)) k sound m size (Midway s value) None v e =
    let between : view_between s value ≡ v = between_is s value (k.outside s value) v e in
    subst (λ (u : View). Own (Some (event.Abort by)) k m (Midway s value) None
    (stepped_under (Some (event.Abort by)) k m u u.mode)) between
    (as_event (Some (event.Abort by)) k m (Midway s value) None (stepped k m (view_between s value) Mid) refl
    (own k sound m size (Midway s value) None (view_between s value) (e ∙ ap Some (sym between))))
own_under (Some (event.Abort by)) k sound m size (Midway s value) (Some depth) v e = cc
own_under (Some (event.Abort by)) k sound m size (Halted s x) None v e =
    subst (λ (u : View). Own (Some (event.Abort by)) k m (Halted s x) None
    (stepped_under (Some (event.Abort by)) k m u u.mode)) (same_Some (view_outside (AtStop x) s) v e)
    (as_event (Some (event.Abort by)) k m (Halted s x) None (stepped k m (view_outside (AtStop x) s) (AtStop x)) refl
    (own k sound m size (Halted s x) None (view_outside (AtStop x) s) refl))
own_under (Some (event.Abort by)) k sound m size (Halted s x) (Some depth) v e = cc
own_under (Some (event.Abort by)) k sound m size (Opened s n) (Some depth) v e =
    subst (λ (u : View). Own (Some (event.Abort by)) k m (Opened s n) (Some depth)
    (stepped_under (Some (event.Abort by)) k m u u.mode)) (same_Some (view_outside (Condemned depth) s) v e)
    (as_event (Some (event.Abort by)) k m (Opened s n) (Some depth)
    (stepped k m (view_outside (Condemned depth) s) (Condemned depth)) refl
    (own k sound m size (Opened s n) (Some depth) (view_outside (Condemned depth) s) refl))
own_under (Some (event.Abort by)) k sound m size (Opened s n) None v e =
    option_and_then_some (view_inside s) (isolated_body k s m n) v e (λ b is e2.
    let parts : (eqb b.depth 0 ≡ false) × (view_of_body s b ≡ v) = view_inside_is s b v e2 in
    subst (λ (u : View). Own (Some (event.Abort by)) k m (Opened s n) None
    (stepped_under (Some (event.Abort by)) k m u u.mode)) parts.1 (left_by by k m s n b is))
