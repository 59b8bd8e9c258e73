-- What a step does to memory as its core sees it, and to its core, as one record for all of them; a drain is none.
use Rattle.std.proofs.Common.{◌≡◌, ◌⊎◌, inl, inr, ℕ, suc, Bool, true, false, cond, eqb, List, [], Some, None}
use Rattle.std.proofs.Common.{refl, sym, ap, ◌∙◌}
use Rattle.std.specs.Prelude.{option_and_then}
use Rattle.std.proofs.lemmas.Option.{option_and_then_some, same_Some}
use Rattle.tm_model.specs.Access.{Stores, memory_after, stored_addresses, stores_of}
use Rattle.tm_model.specs.Conflicts.{addresses_stored_by, addresses_stored_inside, addresses_stored_outside}
use Rattle.tm_model.specs.Isolated.{Body, isolated_body}
use Rattle.tm_model.specs.Setting.{Setting, outside_at, value_at}
use Rattle.tm_model.specs.State.{Closed, Core, Halted, Midway, Opened}
use Rattle.tm_model.specs.Steps.{after_begin, after_commit, after_load, after_plain, after_step_of, after_stop}
use Rattle.tm_model.specs.Steps.{registers_after_abort, stop_number}
use Rattle.tm_core.specs.Types.{Aborted, AbortedBy, Begins, Begun, Committed, Drained, Goes, Idle, Inside, Loaded}
use Rattle.tm_core.specs.Types.{Outcome, OutsideResult, Plain, Regs, Stop, Stopped, Stops}

-- memory and a core
abbrev pub pair : List ℕ → Core → List ℕ × Core
pair m core = (m, core)

abbrev pub is_opened : Core → Bool
is_opened (Opened s n) = true
is_opened (Closed s) = false
is_opened (Midway s value) = false
is_opened (Halted s stop) = false

abbrev pub stays_in : Outcome → Bool
stays_in Begun = true
stays_in Inside = true
stays_in Plain = false
stays_in Loaded = false
stays_in (Stopped stop) = false
stays_in Idle = false
stays_in Committed = false
stays_in (Aborted status) = false
stays_in (AbortedBy by status) = false
stays_in Drained = true

-- whether an outcome may be of a step that stores to memory
abbrev pub stores_there : Outcome → Bool
stores_there Plain = true
stores_there Committed = true
stores_there Begun = false
stores_there Inside = false
stores_there Loaded = false
stores_there (Stopped stop) = false
stores_there Idle = false
stores_there (Aborted status) = false
stores_there (AbortedBy by status) = false
stores_there Drained = false

pub record BeginsHere (m : List ℕ) (core : Core) (o : Outcome) (m2 : List ℕ) (next : Core) : Type 0 where
  pub regs : Regs
  pub was : core ≡ Closed regs
  pub outcome : o ≡ Begun
  pub is : next ≡ Opened regs 1
  pub same : m2 ≡ m

pub record GoesOnHere (m : List ℕ) (core : Core) (o : Outcome) (m2 : List ℕ) (next : Core) : Type 0 where
  pub regs : Regs
  pub steps : ℕ
  pub was : core ≡ Opened regs steps
  pub outcome : o ≡ Inside
  pub is : next ≡ Opened regs (suc steps)
  pub same : m2 ≡ m

pub record IsOut (o : Outcome) (next : Core) : Type 0 where
  pub outcome : stays_in o ≡ false
  pub is : is_opened next ≡ false

pub record IsMoved (k : Setting) (m : List ℕ) (core : Core) (o : Outcome) (m2 : List ℕ) (next : Core) : Type 0 where
  pub stores : Stores
  pub memory : m2 ≡ memory_after m stores
  pub stored : stored_addresses stores ≡ addresses_stored_by k m core o
  pub quiet : stores_there o ≡ false → stores ≡ []
  pub shape : BeginsHere m core o m2 next ⊎ (GoesOnHere m core o m2 next ⊎ IsOut o next)

out_plain : (k : Setting) (m : List ℕ) (core : Core) (r : OutsideResult) (m2 : List ℕ) (next : Core) →
    addresses_stored_outside r ≡ addresses_stored_by k m core Plain →
    after_plain m r ≡ Some (m2, next) → IsMoved k m core Plain m2 next
out_plain k m core (Goes s w) m2 next stored e =
    let same : pair (memory_after m (stores_of w)) (Closed s) ≡ pair m2 next =
    same_Some (pair (memory_after m (stores_of w)) (Closed s)) (pair m2 next) e in
    record {
      stores = stores_of w;
      memory = sym (ap (λ p. p.0) same);
      stored = stored;
      quiet = λ no. cc;
      shape = inr (inr (record { outcome = refl; is = ap (λ p. is_opened p.1) (sym same) }));
    }
out_plain k m core (Begins s) m2 next stored e = cc
out_plain k m core (Stops stop) m2 next stored e = cc

plain_whole : (k : Setting) (m : List ℕ) (core : Core) (t : Bool) (r : OutsideResult) (m2 : List ℕ) (next : Core) →
    addresses_stored_outside r ≡ addresses_stored_by k m core Plain →
    cond t None (after_plain m r) ≡ Some (m2, next) → IsMoved k m core Plain m2 next
plain_whole k m core true r m2 next stored e = cc
plain_whole k m core false r m2 next stored e = out_plain k m core r m2 next stored e

-- a step out of which memory comes as it was
same_memory : (k : Setting) (m : List ℕ) (core : Core) (o : Outcome) (m2 : List ℕ) (next new : Core) →
    [] ≡ addresses_stored_by k m core o → stays_in o ≡ false → is_opened new ≡ false →
    Some (pair m new) ≡ Some (pair m2 next) → IsMoved k m core o m2 next
same_memory k m core o m2 next new stored out closed e =
    let same : pair m (new) ≡ pair m2 next = same_Some (pair m (new)) (pair m2 next) e in
    record {
      stores = [];
      memory = sym (ap (λ p. p.0) same);
      stored = stored;
      quiet = λ no. refl;
      shape = inr (inr (record { outcome = out; is = ap (λ p. is_opened p.1) (sym same) ∙ closed }));
    }

loads : (k : Setting) (m : List ℕ) (s : Regs) (value : ℕ) (t : Bool) (r : OutsideResult) (m2 : List ℕ) (next : Core) →
    cond t (after_load m s value r) None ≡ Some (m2, next) → IsMoved k m (Closed s) Loaded m2 next
loads k m s value true (Goes u w) m2 next e =
    same_memory k m (Closed s) Loaded m2 next (Midway s value) refl refl refl e
loads k m s value true (Begins u) m2 next e = cc
loads k m s value true (Stops stop) m2 next e = cc
loads k m s value false r m2 next e = cc

stops : (k : Setting) (m : List ℕ) (s : Regs) (stop : Stop) (r : OutsideResult) (m2 : List ℕ) (next : Core) →
    after_stop m s stop r ≡ Some (m2, next) → IsMoved k m (Closed s) (Stopped stop) m2 next
stops k m s stop (Stops reason) m2 next e = on (eqb (stop_number stop) (stop_number reason)) e
  where
    on : (t : Bool) → cond t (Some (pair m (Halted s stop))) None ≡ Some (pair m2 next)
        → IsMoved k m (Closed s) (Stopped stop) m2 next
    on true e = same_memory k m (Closed s) (Stopped stop) m2 next (Halted s stop) refl refl refl e
    on false e = cc
stops k m s stop (Goes u w) m2 next e = cc
stops k m s stop (Begins u) m2 next e = cc

begins : (k : Setting) (m : List ℕ) (s : Regs) (r : OutsideResult) (m2 : List ℕ) (next : Core) →
    after_begin m s r ≡ Some (m2, next) → IsMoved k m (Closed s) Begun m2 next
begins k m s (Begins u) m2 next e =
    let same : pair m (Opened s 1) ≡ pair m2 next = same_Some (pair m (Opened s 1)) (pair m2 next) e in
    record {
      stores = [];
      memory = sym (ap (λ p. p.0) same);
      stored = refl;
      quiet = λ no. refl;
      shape = inl (record {
        regs = s;
        was = refl;
        outcome = refl;
        is = ap (λ p. p.1) (sym same);
        same = ap (λ p. p.0) (sym same);
      });
    }
begins k m s (Goes u w) m2 next e = cc
begins k m s (Stops stop) m2 next e = cc

goes_on : (k : Setting) (m : List ℕ) (s : Regs) (n : ℕ) (m2 : List ℕ) (next : Core) →
    Some (pair m (Opened s (suc n))) ≡ Some (pair m2 next) → IsMoved k m (Opened s n) Inside m2 next
goes_on k m s n m2 next e =
    let same : pair m (Opened s (suc n)) ≡ pair m2 next = same_Some (pair m (Opened s (suc n))) (pair m2 next) e in
    record {
      stores = [];
      memory = sym (ap (λ p. p.0) same);
      stored = refl;
      quiet = λ no. refl;
      shape = inr (inl (record {
        regs = s;
        steps = n;
        was = refl;
        outcome = refl;
        is = ap (λ p. p.1) (sym same);
        same = ap (λ p. p.0) (sym same);
      }));
    }

commits : (k : Setting) (m : List ℕ) (s : Regs) (n : ℕ) (m2 : List ℕ) (next : Core) →
    option_and_then (after_commit m) (isolated_body k s m (suc n)) ≡ Some (m2, next)
    → IsMoved k m (Opened s n) Committed m2 next
commits k m s n m2 next e =
    option_and_then_some (after_commit m) (isolated_body k s m (suc n)) (m2, next) e (λ b is done.
    on b (eqb b.depth 0) is done)
  where
    on : (b : Body) (t : Bool) → isolated_body k s m (suc n) ≡ Some b
        → cond t (Some (pair (memory_after m b.stores) (Closed b.regs))) None ≡ Some (pair m2 next) →
        IsMoved k m (Opened s n) Committed m2 next
    on b true is e2 =
        let same : pair (memory_after m b.stores) (Closed b.regs) ≡ pair m2 next =
        same_Some (pair (memory_after m b.stores) (Closed b.regs)) (pair m2 next) e2 in
        record {
          stores = b.stores;
          memory = sym (ap (λ p. p.0) same);
          stored = ap addresses_stored_inside (sym is);
          quiet = λ no. cc;
          shape = inr (inr (record { outcome = refl; is = ap (λ p. is_opened p.1) (sym same) }));
        }
    on b false is e2 = cc

pub moved : (k : Setting) (m : List ℕ) (core : Core) (o : Outcome) (m2 : List ℕ) (next : Core)
    → after_step_of k m core o ≡ Some (m2, next) → IsMoved k m core o m2 next
moved k m (Closed s) Plain m2 next e =
    plain_whole k m (Closed s) (k.takes_two_steps s) (outside_at k s m) m2 next refl e
moved k m (Closed s) Loaded m2 next e = loads k m s (value_at k s m) (k.takes_two_steps s) (outside_at k s m) m2 next e
moved k m (Closed s) (Stopped why) m2 next e = stops k m s why (outside_at k s m) m2 next e
moved k m (Closed s) Idle m2 next e = cc
moved k m (Closed s) Begun m2 next e = begins k m s (outside_at k s m) m2 next e
moved k m (Closed s) Inside m2 next e = cc
moved k m (Closed s) Committed m2 next e = cc
moved k m (Closed s) (Aborted status) m2 next e = cc
moved k m (Closed s) (AbortedBy by status) m2 next e = cc
moved k m (Closed s) Drained m2 next e = cc
moved k m (Midway s value) Plain m2 next e = out_plain k m (Midway s value) (k.outside s value) m2 next refl e
moved k m (Midway s value) Loaded m2 next e = cc
moved k m (Midway s value) (Stopped why) m2 next e = cc
moved k m (Midway s value) Idle m2 next e = cc
moved k m (Midway s value) Begun m2 next e = cc
moved k m (Midway s value) Inside m2 next e = cc
moved k m (Midway s value) Committed m2 next e = cc
moved k m (Midway s value) (Aborted status) m2 next e = cc
moved k m (Midway s value) (AbortedBy by status) m2 next e = cc
moved k m (Midway s value) Drained m2 next e = cc
moved k m (Halted s stop) Plain m2 next e = cc
moved k m (Halted s stop) Loaded m2 next e = cc
moved k m (Halted s stop) (Stopped why) m2 next e = cc
moved k m (Halted s stop) Idle m2 next e = same_memory k m (Halted s stop) Idle m2 next (Halted s stop) refl refl refl e
moved k m (Halted s stop) Begun m2 next e = cc
moved k m (Halted s stop) Inside m2 next e = cc
moved k m (Halted s stop) Committed m2 next e = cc
moved k m (Halted s stop) (Aborted status) m2 next e = cc
moved k m (Halted s stop) (AbortedBy by status) m2 next e = cc
moved k m (Halted s stop) Drained m2 next e = cc
moved k m (Opened s n) Plain m2 next e = cc
moved k m (Opened s n) Loaded m2 next e = cc
moved k m (Opened s n) (Stopped why) m2 next e = cc
moved k m (Opened s n) Idle m2 next e = cc
moved k m (Opened s n) Begun m2 next e = cc
moved k m (Opened s n) Inside m2 next e = goes_on k m s n m2 next e
moved k m (Opened s n) Committed m2 next e = commits k m s n m2 next e
moved k m (Opened s n) (Aborted status) m2 next e =
    same_memory k m (Opened s n) (Aborted status) m2 next (Closed (registers_after_abort k s status)) refl refl refl e
moved k m (Opened s n) (AbortedBy by status) m2 next e = same_memory k m (Opened s n) (AbortedBy by status) m2 next
    (Closed (registers_after_abort k s status)) refl refl refl e
moved k m (Opened s n) Drained m2 next e = cc
