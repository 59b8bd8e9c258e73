-- What a step stores to. At all other addresses it leaves memory.
use Rattle.std.proofs.Common.{◌≡◌, ◌⊎◌, inl, inr, ℕ, zero, suc, ◌+◌, ◌<◌, ◌≤◌, ◌/◌, Bool, true, false, cond, List, []}
use Rattle.std.proofs.Common.{◌∷◌, Option, Some, None}
use Rattle.std.proofs.Common.{get_or, length, refl, sym, ap, ◌∙◌, subst, arith}
use Rattle.std.specs.Prelude.{Contains, nat_eq, option_and_then}
use Rattle.std.proofs.lemmas.Bool.{cases_eq, eqb-true, false≢true}
use Rattle.std.proofs.lemmas.List.{get_or-set_other, length-set}
use Rattle.std.proofs.lemmas.List.Elements.{Contains-append_cases, Contains-append_left, Contains-append_right}
use Rattle.std.proofs.lemmas.List.Elements.{Contains-push}
use Rattle.ia_regs.specs.declared.Regs.{Regs}
use Rattle.tm_rule.specs.declared.kinds.InsideResult.{InsideResult}
use Rattle.tm_rule.specs.declared.kinds.InsideResult.TheVariants.{GoesOn, Nests, Ends, Fails}
use Rattle.tm_rule.specs.declared.kinds.OutsideResult.{OutsideResult}
use Rattle.tm_rule.specs.declared.kinds.OutsideResult.TheVariants.{Goes, Begins, Stops}
use Rattle.tm_rule.specs.declared.kinds.Stop.{Stop}
use Rattle.tm_core.specs.Reopening.{IsSameElsewhere}
use Rattle.tm_model.specs.Access.{Stores, addresses_from, memory_after, stored_addresses, stores_of}
use Rattle.tm_model.specs.Conflicts.{addresses_stored_outside}
use Rattle.tm_model.specs.Isolated.{Body, isolated_body, longer_body, next_body}
use Rattle.tm_model.specs.Setting.{Setting}
use Rattle.tm_model.specs.State.{Closed, Core, Halted, Midway}
use Rattle.tm_model.specs.Steps.{Change, after_begin, after_commit, after_load, after_plain, after_stop, stop_number}
use Rattle.tm_outcomes.proofs.Somes.{same_in}

-- as many bytes, and the same ones but at these addresses
pub record IsSameBut (addresses memory other : List ℕ) : Type 0 where
  pub count : length memory ≡ length other
  pub same : (address : ℕ) → Contains addresses address ⊎ (get_or memory address 0 ≡ get_or other address 0)

pub keeps : (addresses memory other : List ℕ) → memory ≡ other → IsSameBut addresses memory other
keeps addresses memory other e = record {
  count = ap length e;
  same = λ address. inr (ap (λ (m : List ℕ). get_or m address 0) e);
}

first_of : (x address : ℕ) (xs : List ℕ) → x ≡ address → Contains (x ∷ xs) address
first_of x address xs e =
    subst (λ a. Contains (x ∷ xs) a) e (Contains-append_left (x ∷ []) xs x (Contains-push [] x))

pub stored : (memory : List ℕ) (stores : Stores)
    → IsSameBut (stored_addresses stores) (memory_after memory stores) memory
stored memory [] = record { count = refl; same = λ address. inr refl }
stored memory (store ∷ stores) =
    let before = stored memory stores in
    record {
      count = length-set (memory_after memory stores) store.0 store.1 ∙ before.count;
      same = λ address. elim (cases_eq address store.0) [
        | inl here ↦ inl (first_of store.0 address (stored_addresses stores) (sym here))
        | inr other ↦
            elim (before.same address) [
              | inl among ↦ inl (Contains-append_right (store.0 ∷ []) (stored_addresses stores) address among)
              | inr same ↦ inr (get_or-set_other (memory_after memory stores) store.0 address store.1 0 other ∙ same)
            ]
      ];
    }

-- ---- by lines

pub on_lines : (addresses lines memory other : List ℕ) → IsSameBut addresses memory other →
    ((address : ℕ) → Contains addresses address → Contains lines (address / 64)) → IsSameElsewhere lines memory other
on_lines addresses lines memory other but have = record {
  count = but.count;
  same = λ address. elim (but.same address) [
    | inl among ↦ inl (have address among)
    | inr same ↦ inr same
  ];
}

pub on_more : (lines more memory other : List ℕ) → ((line : ℕ) → Contains lines line → Contains more line) →
    IsSameElsewhere lines memory other → IsSameElsewhere more memory other
on_more lines more memory other among same = record {
  count = same.count;
  same = λ address. elim (same.same address) [
    | inl here ↦ inl (among (address / 64) here)
    | inr e ↦ inr e
  ];
}

pub turned : (lines a b : List ℕ) → IsSameElsewhere lines a b → IsSameElsewhere lines b a
turned lines a b one = record {
  count = sym one.count;
  same = λ address. elim (one.same address) [
    | inl here ↦ inl here
    | inr e ↦ inr (sym e)
  ];
}

pub then_same : (lines a b c : List ℕ) → IsSameElsewhere lines a b → IsSameElsewhere lines b c
    → IsSameElsewhere lines a c
then_same lines a b c one other = record {
  count = one.count ∙ other.count;
  same = λ address. elim (one.same address) [
    | inl here ↦ inl here
    | inr e ↦ elim (other.same address) [
      | inl here ↦ inl here
      | inr f ↦ inr (e ∙ f)
    ]
  ];
}

-- an address of so many from another on
pub in_row : (start count address : ℕ) → Contains (addresses_from start count) address
    → (start ≤ address) × (address < start + count)
in_row start zero address (k, below, is) = absurd (omega arith)
in_row start (suc count) address among =
    elim (Contains-append_cases (start ∷ []) (addresses_from (start + 1) count) address among) [
      | inl here ↦ let e = only start address here in ((omega arith), (omega arith))
      | inr later ↦ let rest = in_row (start + 1) count address later in
          ((let low = rest.0 in omega arith), (let high = rest.1 in omega arith))
    ]
  where
    only : (x y : ℕ) → Contains (x ∷ []) y → x ≡ y
    only x y (k, below, is) =
        let zero_is : k ≡ 0 = omega arith in
        subst (λ n. get_or (x ∷ []) n y ≡ y) zero_is is

-- ---- outside of transactions

abbrev pub Made : Type 0
Made = List ℕ × Core

pub else_of : (test : Bool) (change : Change) (made : Made) → cond test None change ≡ Some made → change ≡ Some made
else_of true change made e = cc
else_of false change made e = e

pub then_of : (test : Bool) (change : Change) (made : Made) → cond test change None ≡ Some made → change ≡ Some made
then_of true change made e = e
then_of false change made e = cc

pub left : (memory : List ℕ) (core : Core) (made : Made) → Some (memory, core) ≡ Some made → made.0 ≡ memory
left memory core made e = ap (λ (x : Made). x.0) (sym (same_in e))

pub plain : (memory : List ℕ) (result : OutsideResult) (made : Made) → after_plain memory result ≡ Some made →
    IsSameBut (addresses_stored_outside result) made.0 memory
plain memory (Goes regs store) made e =
    subst (λ (x : Made). IsSameBut (stored_addresses (stores_of store)) x.0 memory) (same_in e)
    (stored memory (stores_of store))
plain memory (Begins regs) made e = absurd (cc)
plain memory (Stops stop) made e = absurd (cc)

pub loaded : (memory : List ℕ) (regs : Regs) (value : ℕ) (result : OutsideResult) (made : Made) →
    after_load memory regs value result ≡ Some made → made.0 ≡ memory
loaded memory regs value (Goes next store) made e = left memory (Midway regs value) made e
loaded memory regs value (Begins next) made e = absurd (cc)
loaded memory regs value (Stops stop) made e = absurd (cc)

pub halted : (memory : List ℕ) (regs : Regs) (stop : Stop) (result : OutsideResult) (made : Made) →
    after_stop memory regs stop result ≡ Some made → made.0 ≡ memory
halted memory regs stop (Stops reason) made e =
    left memory (Halted regs stop) made
    (then_of (nat_eq (stop_number stop) (stop_number reason)) (Some (memory, Halted regs stop)) made e)
halted memory regs stop (Goes next store) made e = absurd (cc)
halted memory regs stop (Begins next) made e = absurd (cc)

pub begun : (memory : List ℕ) (regs : Regs) (result : OutsideResult) (made : Made)
    → after_begin memory regs result ≡ Some made →
    made.0 ≡ memory
begun memory regs (Begins next) made e = ap (λ (x : Made). x.0) (sym (same_in e))
begun memory regs (Goes next store) made e = absurd (cc)
begun memory regs (Stops stop) made e = absurd (cc)

-- ---- commits

pub record IsCommit (memory : List ℕ) (body : Option Body) (made : Made) : Type 0 where
  pub last : Body
  pub is_last : body ≡ Some last
  pub closed : nat_eq last.depth 0 ≡ true
  pub stored : made.0 ≡ memory_after memory last.stores

by_depth : (memory : List ℕ) (body : Body) (made : Made) (ended : Bool) → nat_eq body.depth 0 ≡ ended →
    cond ended (Some (memory_after memory body.stores, Closed body.regs)) None ≡ Some made
    → IsCommit memory (Some body) made
by_depth memory body made true is e = record {
  last = body;
  is_last = refl;
  closed = is;
  stored = ap (λ (x : Made). x.0) (sym (same_in e));
}
by_depth memory body made false is e = absurd (cc)

pub committed : (memory : List ℕ) (body : Option Body) (made : Made)
    → option_and_then (after_commit memory) body ≡ Some made →
    IsCommit memory body made
committed memory (Some body) made e = by_depth memory body made (nat_eq body.depth 0) refl e
committed memory None made e = absurd (cc)

-- the XEND that ends a body stores nothing
ends : (first : Body) (loads : List ℕ) (result : InsideResult) (last : Body) → nat_eq first.depth 0 ≡ false →
    next_body first loads result ≡ Some last → nat_eq last.depth 0 ≡ true → last.stores ≡ first.stores
ends first loads (GoesOn regs store) last goes e closed =
    absurd (false≢true (sym goes ∙ (ap (λ (b : Body). nat_eq b.depth 0) (same_in e) ∙ closed)))
ends first loads (Nests regs) last goes e closed =
    let deeper : first.depth + 1 ≡ last.depth = ap (λ (b : Body). b.depth) (same_in e) in
    let none : last.depth ≡ 0 = eqb-true last.depth 0 closed in
    absurd (omega arith)
ends first loads (Ends regs) last goes e closed = sym (ap (λ (b : Body). b.stores) (same_in e))
ends first loads (Fails cause) last goes e closed = absurd (cc)

goes_on : (first : Body) (ended : Bool) (loads : List ℕ) (result : InsideResult) (last : Body)
    → nat_eq first.depth 0 ≡ ended →
    cond ended None (next_body first loads result) ≡ Some last → nat_eq first.depth 0 ≡ false
    → nat_eq last.depth 0 ≡ true →
    last.stores ≡ first.stores
goes_on first true loads result last is e goes closed = absurd (false≢true (sym goes ∙ is))
goes_on first false loads result last is e goes closed = ends first loads result last goes e closed

pub before_commit : (setting : Setting) (memory : List ℕ) (regs : Regs) (steps : ℕ) (first last : Body) →
    isolated_body setting regs memory steps ≡ Some first → isolated_body setting regs memory (suc steps) ≡ Some last →
    nat_eq first.depth 0 ≡ false → nat_eq last.depth 0 ≡ true → last.stores ≡ first.stores
before_commit setting memory regs zero first last is_first is_last goes closed = absurd (cc)
before_commit setting memory regs (suc steps) first last is_first is_last goes closed =
    goes_on first (nat_eq first.depth 0) _ _ last refl
    (ap (option_and_then (longer_body setting memory)) (sym is_first) ∙ is_last) goes closed
