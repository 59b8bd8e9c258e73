-- What the page makes of the core that steps.
use Rattle.std.proofs.Common.{◌≡◌, ℕ, zero, suc, ◌+◌, ◌-◌, ◌%◌, Bool, true, false, cond}
use Rattle.std.proofs.Common.{List, [], ◌++◌, Option, Some, None, refl, sym, ap, ◌∙◌, subst}
use Rattle.std.specs.Prelude.{option_and_then, option_map, unwrap_or}
use Rattle.std.proofs.lemmas.Option.{option_and_then_some, same_Some}
use Rattle.std.specs.Option.{option_or}
use Rattle.std.specs.Ordering.{nat_cmp}
use Rattle.std.specs.FinMap as map_of
use Rattle.std.specs.FinSet as set
use Rattle.tm_model.specs.Access.{Stores, lines_of, stored_addresses, stores_of}
use Rattle.tm_model.specs.Explained.{addresses_stored_next}
use Rattle.tm_model.specs.Isolated.{Body, first_body, instruction_after, isolated_body, longer_body, next_body}
use Rattle.tm_model.specs.Setting.{Setting}
use Rattle.tm_model.specs.Shown.{View, buffer_of, view_between, view_inside, view_midway, view_of, view_of_body}
use Rattle.tm_model.specs.Shown.{view_outside}
use Rattle.tm_model.specs.State.{Closed, Halted, Midway}
use Rattle.tm_core.specs.Types.{AtStop, Begins, CoreState, Ends, Fails, Goes, GoesOn, InsideResult}
use Rattle.tm_core.specs.Types.{Nests, OutsideResult, Regs, Running, Stop, Stops}
use Rattle.tm_core.proofs.Frame.{longer_body-next_body}
use Rattle.tm_core.proofs.OtherCores.{view_inside_is}
use Rattle.tm_page.proofs.Parts.{append-stored, apart, has_byte}
use Rattle.tm_page.specs.Applied.{core_outside, is_listed}
use Rattle.tm_page.specs.Shows.{ShowsCore}

-- ---- outside of transactions

-- nothing of a transaction is shown
pub record IsOutside (view : View) : Type 0 where
  pub base : view.base ≡ view.regs
  pub reads : view.reads ≡ set.empty
  pub writes : view.writes ≡ set.empty
  pub buffer : view.buffer ≡ map_of.empty

plain : (mode : CoreState) (s : Regs) (v : View) → Some (view_outside mode s) ≡ Some v → IsOutside v
plain mode s v e = subst IsOutside (same_Some (view_outside mode s) v e)
    (record { base = refl; reads = refl; writes = refl; buffer = refl })

midway : (s : Regs) (value : ℕ) (o : OutsideResult) (v : View) → view_midway s value o ≡ Some v → IsOutside v
midway s value (Goes t w) v e = subst IsOutside (same_Some (view_between s value) v e)
    (record { base = refl; reads = refl; writes = refl; buffer = refl })
midway s value (Begins t) v e = cc
midway s value (Stops x) v e = cc

pub outside_closed : (k : Setting) (m : List ℕ) (s : Regs) (doom : Option ℕ) (v : View)
    → view_of k m (Closed s) doom ≡ Some v → IsOutside v
outside_closed k m s None v e = plain Running s v e
outside_closed k m s (Some depth) v e = cc

pub outside_midway : (k : Setting) (m : List ℕ) (s : Regs) (value : ℕ) (doom : Option ℕ) (v : View)
    → view_of k m (Midway s value) doom ≡ Some v → IsOutside v
outside_midway k m s value None v e = midway s value (k.outside s value) v e
outside_midway k m s value (Some depth) v e = cc

pub outside_halted : (k : Setting) (m : List ℕ) (s : Regs) (stop : Stop) (doom : Option ℕ) (v : View)
    → view_of k m (Halted s stop) doom ≡ Some v → IsOutside v
outside_halted k m s stop None v e = plain (AtStop stop) s v e
outside_halted k m s stop (Some depth) v e = cc

pub shows_outside : (size : ℕ) (v : View) (mode : CoreState) (regs : Regs) → IsOutside v → mode ≡ v.mode
    → regs ≡ v.regs →
    ShowsCore size v (core_outside mode regs)
shows_outside size v mode regs h same_mode same_regs = record {
  mode = sym same_mode;
  base = h.base ∙ sym same_regs;
  regs = sym same_regs;
  reads = λ q. ap (λ ls. set.contains ls q) h.reads ∙ set.contains-empty nat_cmp q;
  writes = λ q. ap (λ ls. set.contains ls q) h.writes ∙ set.contains-empty nat_cmp q;
  private = λ a below. ap (λ b. option_map (λ x. x % 256) (map_of.get b a)) h.buffer
      ∙ ap (option_map (λ x. x % 256)) (map_of.get-empty nat_cmp a);
}

-- ---- behind XBEGIN

pub record IsBegun (s : Regs) (view : View) : Type 0 where
  pub base : view.base ≡ s
  pub buffer : view.buffer ≡ map_of.empty

pub begun : (s : Regs) (loads : List ℕ) (o : OutsideResult) (v : View)
    → option_and_then (view_inside s) (first_body loads o) ≡ Some v → IsBegun s v
begun s loads (Begins t) v e =
    subst (IsBegun s) (same_Some (view_of_body s (record { regs = t; depth = 1; stores = []; loads = loads })) v e)
    (record { base = refl; buffer = refl })
begun s loads (Goes t w) v e = cc
begun s loads (Stops x) v e = cc

-- ---- inside

-- a body and the one with one more instruction, which stored at these addresses
pub record IsGrown (k : Setting) (m : List ℕ) (s : Regs) (steps : ℕ) (before after : View) : Type 0 where
  pub body : Body
  pub is : isolated_body k s m steps ≡ Some body
  pub loads : List ℕ
  pub stores : Stores
  pub stored : stored_addresses stores ≡ addresses_stored_next (instruction_after k m body)
  pub base : after.base ≡ before.base
  pub before_reads : before.reads ≡ lines_of body.loads
  pub after_reads : after.reads ≡ lines_of (loads ++ body.loads)
  pub before_writes : before.writes ≡ lines_of (stored_addresses body.stores)
  pub after_writes : after.writes ≡ lines_of (stored_addresses stores ++ stored_addresses body.stores)
  pub before_buffer : before.buffer ≡ buffer_of body.stores
  pub after_buffer : after.buffer ≡ buffer_of (stores ++ body.stores)

-- what an instruction adds to a body
pub record Adds (b : Body) (loads : List ℕ) (o : InsideResult) (b2 : Body) : Type 0 where
  pub stores : Stores
  pub stored : stored_addresses stores ≡ addresses_stored_next o
  pub now_loads : b2.loads ≡ loads ++ b.loads
  pub now_stores : b2.stores ≡ stores ++ b.stores

adds : (b : Body) (loads : List ℕ) (o : InsideResult) (b2 : Body) → next_body b loads o ≡ Some b2 → Adds b loads o b2
adds b loads (GoesOn t w) b2 e = subst (Adds b loads (GoesOn t w))
    (same_Some (record { regs = t; depth = b.depth; stores = stores_of w ++ b.stores; loads = loads ++ b.loads }) b2 e)
    (record { stores = stores_of w; stored = refl; now_loads = refl; now_stores = refl })
adds b loads (Nests t) b2 e = subst (Adds b loads (Nests t))
    (same_Some (record { regs = t; depth = b.depth + 1; stores = b.stores; loads = loads ++ b.loads }) b2 e)
    (record { stores = []; stored = refl; now_loads = refl; now_stores = refl })
adds b loads (Ends t) b2 e = subst (Adds b loads (Ends t))
    (same_Some (record { regs = t; depth = b.depth - 1; stores = b.stores; loads = loads ++ b.loads }) b2 e)
    (record { stores = []; stored = refl; now_loads = refl; now_stores = refl })
adds b loads (Fails cause) b2 e = cc

bodies : (k : Setting) (m : List ℕ) (s : Regs) (steps : ℕ) (b b2 : Body) (v w : View)
    → isolated_body k s m steps ≡ Some b → view_of_body s b ≡ v → view_of_body s b2 ≡ w →
    Adds b (k.load_of b.regs) (instruction_after k m b) b2 → IsGrown k m s steps v w
bodies k m s steps b b2 v w is e e2 h = record {
  body = b;
  is = is;
  loads = k.load_of b.regs;
  stores = h.stores;
  stored = h.stored;
  base = ap (λ x. x.base) (sym e2) ∙ ap (λ x. x.base) e;
  before_reads = ap (λ x. x.reads) (sym e);
  after_reads = ap (λ x. x.reads) (sym e2) ∙ ap lines_of h.now_loads;
  before_writes = ap (λ x. x.writes) (sym e);
  after_writes = ap (λ x. x.writes) (sym e2) ∙ ap (λ x. lines_of (stored_addresses x)) h.now_stores
      ∙ ap lines_of (append-stored h.stores b.stores);
  before_buffer = ap (λ x. x.buffer) (sym e);
  after_buffer = ap (λ x. x.buffer) (sym e2) ∙ ap buffer_of h.now_stores;
}

pub grows : (k : Setting) (m : List ℕ) (s : Regs) (steps : ℕ) (v w : View) →
    option_and_then (view_inside s) (isolated_body k s m steps) ≡ Some v →
    option_and_then (view_inside s) (isolated_body k s m (suc steps)) ≡ Some w → IsGrown k m s steps v w
grows k m s zero v w e e2 = cc
grows k m s (suc n) v w e e2 =
    option_and_then_some (view_inside s) (isolated_body k s m (suc n)) v e (λ b is shown.
    option_and_then_some (view_inside s) (isolated_body k s m (suc (suc n))) w e2 (λ b2 is2 shown2.
    let longer : longer_body k m b ≡ Some b2 = ap (option_and_then (longer_body k m)) (sym is) ∙ is2 in
    bodies k m s (suc n) b b2 v w is (view_inside_is s b v shown).1 (view_inside_is s b2 w shown2).1
    (adds b (k.load_of b.regs) (instruction_after k m b) b2 (longer_body-next_body k m b b2 longer))))

-- the private bytes: those of the instruction over those that there were
pub private_grown : (ws xs : Stores) (a : ℕ) (stored old : Option ℕ) (memory : ℕ) →
    option_map (λ x. x % 256) (map_of.get (buffer_of xs) a) ≡ old →
    stored
    ≡ cond (is_listed (stored_addresses ws) a)
    (Some (unwrap_or (map_of.get (buffer_of (ws ++ xs)) a) memory % 256)) None →
    option_map (λ x. x % 256) (map_of.get (buffer_of (ws ++ xs)) a) ≡ option_or stored old
private_grown ws xs a stored old memory same is = on (is_listed (stored_addresses ws) a) refl is
  where
    on : (t : Bool) → is_listed (stored_addresses ws) a ≡ t →
        stored ≡ cond t (Some (unwrap_or (map_of.get (buffer_of (ws ++ xs)) a) memory % 256)) None →
        option_map (λ x. x % 256) (map_of.get (buffer_of (ws ++ xs)) a) ≡ option_or stored old
    on true h e =
        let found : (byte : ℕ) × (map_of.get (buffer_of (ws ++ xs)) a ≡ Some byte) = has_byte ws xs a h in
        ap (option_map (λ x. x % 256)) found.1
        ∙ sym (ap (λ o. option_or o old) (e ∙ ap (λ o. Some (unwrap_or o memory % 256)) found.1))
    on false h e = ap (option_map (λ x. x % 256)) (apart ws xs a h) ∙ same ∙ sym (ap (λ o. option_or o old) e)
