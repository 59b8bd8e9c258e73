-- Why the cores of a state have stopped, and what one more step does to that.
use Rattle.std.proofs.Common.{◌≡◌, ℕ, suc, Bool, true, false, cond, eqb, ltb, List, [], ◌∷◌, ◌++◌, Option, Some, None}
use Rattle.std.proofs.Common.{refl, sym, ap, ◌∙◌, subst}
use Rattle.std.specs.Option.{option_map}
use Rattle.std.proofs.lemmas.Option.{option_and_then_some, same_Some}
use Rattle.tm_model.specs.Access.{memory_after}
use Rattle.tm_model.specs.Isolated.{Body, isolated_body}
use Rattle.tm_model.specs.Setting.{Setting, outside_at, value_at}
use Rattle.tm_model.specs.Shown.{View, view_between, view_inside, view_midway, view_of, view_of_body, view_outside}
use Rattle.tm_model.specs.State.{Closed, Core, Halted, Midway, Opened, Pending, State, seen_memory}
use Rattle.tm_model.specs.Steps.{Next, after_begin, after_commit, after_load, after_plain, after_step, after_step_of}
use Rattle.tm_model.specs.Steps.{after_stop, must_wait, run, settled, state_with, step, stop_number, store_buffered}
use Rattle.tm_model.specs.Types.{Begins, Goes, OutsideResult, Regs, Stop, Stops, Store}
use Rattle.tm_model.specs.declared.outcome.CoreState.TheVariants.{Running, Condemned, Stopped as AtStop}
use Rattle.tm_model.specs.declared.outcome.Outcome.{Outcome}
use Rattle.tm_model.specs.declared.outcome.Outcome.TheVariants.{Plain, Loaded, Stopped, Idle, Begun, Inside, Committed}
use Rattle.tm_model.specs.declared.outcome.Outcome.TheVariants.{Aborted, AbortedBy, Drained}
use Rattle.tm_hist.specs.Board.{stop_shown}

-- why a core of a state stopped, where it did
abbrev pub halt_of : Core → Option Stop
halt_of (Closed regs) = None
halt_of (Midway regs value) = None
halt_of (Halted regs why) = Some why
halt_of (Opened regs count) = None

-- why a core stopped with an outcome, if it did
abbrev pub halt_told : Outcome → Option Stop
halt_told Plain = None
halt_told Loaded = None
halt_told (Stopped why) = Some why
halt_told Idle = None
halt_told Begun = None
halt_told Inside = None
halt_told Committed = None
halt_told (Aborted status) = None
halt_told (AbortedBy by status) = None
halt_told Drained = None

-- ---- what is shown

module _ (k : Setting) (m : List ℕ) where
  shows_midway : (s : Regs) (value : ℕ) (o : OutsideResult) (v : View) → view_midway s value o ≡ Some v
      → stop_shown v.mode ≡ None
  shows_midway s value (Goes t w) v e =
      ap (λ (u : View). stop_shown u.mode) (sym (same_Some (view_between s value) v e))
  shows_midway s value (Begins t) v e = cc
  shows_midway s value (Stops x) v e = cc

  shows_open : (s : Regs) (b : Body) (v : View) → view_inside s b ≡ Some v → stop_shown v.mode ≡ None
  shows_open s b v =
      elim (eqb b.depth 0) as (λ t. cond t None (Some (view_of_body s b)) ≡ Some v → stop_shown v.mode ≡ None) [
        | true ↦ λ e. cc
        | false ↦ λ e. ap (λ (u : View). stop_shown u.mode) (sym (same_Some (view_of_body s b) v e))
      ]

  -- a core shows why it stopped
  pub shows_halt : (x : Core) (dx : Option ℕ) (v : View) → view_of k m x dx ≡ Some v → stop_shown v.mode ≡ halt_of x
  shows_halt (Closed s) None v e = ap (λ (u : View). stop_shown u.mode) (sym (same_Some (view_outside Running s) v e))
  shows_halt (Closed s) (Some depth) v e = cc
  shows_halt (Midway s value) None v e = shows_midway s value (k.outside s value) v e
  shows_halt (Midway s value) (Some depth) v e = cc
  shows_halt (Halted s why) None v e =
      ap (λ (u : View). stop_shown u.mode) (sym (same_Some (view_outside (AtStop why) s) v e))
  shows_halt (Halted s why) (Some depth) v e = cc
  shows_halt (Opened s n) (Some depth) v e =
      ap (λ (u : View). stop_shown u.mode) (sym (same_Some (view_outside (Condemned depth) s) v e))
  shows_halt (Opened s n) None v e =
      option_and_then_some (view_inside s) (isolated_body k s m n) v e (λ b is e2. shows_open s b v e2)

-- ---- one step

abbrev Change : Type 0
Change = List ℕ × Core

halt_is : (change p : Change) → ◌≡◌ {A = Option Change} (Some change) (Some p) → halt_of p.1 ≡ halt_of change.1
halt_is change p e = ap (λ (q : Change). halt_of q.1) (sym (same_Some change p e))

plain_halt : (m : List ℕ) (r : OutsideResult) (p : Change) → after_plain m r ≡ Some p → halt_of p.1 ≡ None
plain_halt m (Goes t w) p e = halt_is _ p e
plain_halt m (Begins t) p e = cc
plain_halt m (Stops x) p e = cc

load_halt : (m : List ℕ) (s : Regs) (value : ℕ) (r : OutsideResult) (p : Change) → after_load m s value r ≡ Some p
    → halt_of p.1 ≡ None
load_halt m s value (Goes t w) p e = halt_is _ p e
load_halt m s value (Begins t) p e = cc
load_halt m s value (Stops x) p e = cc

begin_halt : (m : List ℕ) (s : Regs) (r : OutsideResult) (p : Change) → after_begin m s r ≡ Some p → halt_of p.1 ≡ None
begin_halt m s (Goes t w) p e = cc
begin_halt m s (Begins t) p e = halt_is _ p e
begin_halt m s (Stops x) p e = cc

stop_halt : (m : List ℕ) (s : Regs) (why : Stop) (r : OutsideResult) (p : Change) → after_stop m s why r ≡ Some p
    → halt_of p.1 ≡ Some why
stop_halt m s why (Goes t w) p e = cc
stop_halt m s why (Begins t) p e = cc
stop_halt m s why (Stops x) p e =
    (elim (eqb (stop_number why) (stop_number x))
    as (λ t. cond t (Some (m, Halted s why)) None ≡ Some p → halt_of p.1 ≡ Some why) [
      | true ↦ λ e. halt_is (m, Halted s why) p e
      | false ↦ λ e. cc
    ]) e

commit_halt : (m : List ℕ) (b : Body) (p : Change) → after_commit m b ≡ Some p → halt_of p.1 ≡ None
commit_halt m b p e =
    (elim (eqb b.depth 0)
    as (λ t. cond t (Some (memory_after m b.stores, Closed b.regs)) None ≡ Some p → halt_of p.1 ≡ None) [
      | true ↦ λ e. halt_is _ p e
      | false ↦ λ e. cc
    ]) e

-- the core that steps, where it has not stopped, has stopped exactly where its outcome says so
own_halt : (k : Setting) (m : List ℕ) (x : Core) (o : Outcome) (p : Change) → after_step_of k m x o ≡ Some p
    → halt_of x ≡ None → halt_of p.1 ≡ halt_told o
own_halt k m (Closed s) Plain p e none =
    (elim (k.takes_two_steps s) as (λ t. cond t None (after_plain m (outside_at k s m)) ≡ Some p → halt_of p.1 ≡ None) [
      | true ↦ λ e. cc
      | false ↦ λ e. plain_halt m (outside_at k s m) p e
    ]) e
own_halt k m (Closed s) Loaded p e none =
    (elim (k.takes_two_steps s)
    as (λ t. cond t (after_load m s (value_at k s m) (outside_at k s m)) None ≡ Some p → halt_of p.1 ≡ None) [
      | true ↦ λ e. load_halt m s (value_at k s m) (outside_at k s m) p e
      | false ↦ λ e. cc
    ]) e
own_halt k m (Closed s) (Stopped why) p e none = stop_halt m s why (outside_at k s m) p e
own_halt k m (Closed s) Idle p e none = cc
own_halt k m (Closed s) Begun p e none = begin_halt m s (outside_at k s m) p e
own_halt k m (Closed s) Inside p e none = cc
own_halt k m (Closed s) Committed p e none = cc
own_halt k m (Closed s) (Aborted status) p e none = cc
own_halt k m (Closed s) (AbortedBy by status) p e none = cc
own_halt k m (Closed s) Drained p e none = cc
own_halt k m (Midway s value) Plain p e none = plain_halt m (k.outside s value) p e
own_halt k m (Midway s value) Loaded p e none = cc
own_halt k m (Midway s value) (Stopped why) p e none = cc
own_halt k m (Midway s value) Idle p e none = cc
own_halt k m (Midway s value) Begun p e none = cc
own_halt k m (Midway s value) Inside p e none = cc
own_halt k m (Midway s value) Committed p e none = cc
own_halt k m (Midway s value) (Aborted status) p e none = cc
own_halt k m (Midway s value) (AbortedBy by status) p e none = cc
own_halt k m (Midway s value) Drained p e none = cc
own_halt k m (Halted s why) o p e none = cc
own_halt k m (Opened s n) Plain p e none = cc
own_halt k m (Opened s n) Loaded p e none = cc
own_halt k m (Opened s n) (Stopped why) p e none = cc
own_halt k m (Opened s n) Idle p e none = cc
own_halt k m (Opened s n) Begun p e none = cc
own_halt k m (Opened s n) Inside p e none = halt_is _ p e
own_halt k m (Opened s n) Committed p e none =
    option_and_then_some (after_commit m) (isolated_body k s m (suc n)) p e (λ b is e2. commit_halt m b p e2)
own_halt k m (Opened s n) (Aborted status) p e none = halt_is _ p e
own_halt k m (Opened s n) (AbortedBy by status) p e none = halt_is _ p e
own_halt k m (Opened s n) Drained p e none = cc

-- so it is, whether what it stores is pending now or in memory
settled_core : (m : List ℕ) (left : Pending) (store : Option Store) (change : Change)
    → (settled m left store change).1.1 ≡ change.1
settled_core m left (Some store) change = refl
settled_core m [] None change = refl
settled_core m (oldest ∷ younger) None change = refl

settled_halt : (k : Setting) (m : List ℕ) (x : Core) (o : Outcome) (left : Pending) (store : Option Store)
    (seen : List ℕ) (waits : Bool) (change : Option Change) (to : Next) → after_step_of k seen x o ≡ change
    → cond waits None (option_map (settled m left store) change) ≡ Some to → halt_of x ≡ None
    → halt_of to.1.1 ≡ halt_told o
settled_halt k m x o left store seen true change to is e none = cc
settled_halt k m x o left store seen false None to is e none = cc
settled_halt k m x o left store seen false (Some change) to is e none =
    ap (λ (q : Next). halt_of q.1.1) (sym (same_Some (settled m left store change) to e))
    ∙ ap halt_of (settled_core m left store change)
    ∙ own_halt k seen x o change is none

goes_halt : (k : Setting) (m : List ℕ) (x : Core) (o : Outcome) (left : Pending) (to : Next)
    → cond (must_wait k (seen_memory m left) left x o) None
    (option_map (settled m left (store_buffered k (seen_memory m left) x o)) (after_step_of k (seen_memory m left) x o))
    ≡ Some to
    → halt_of x ≡ None → halt_of to.1.1 ≡ halt_told o
goes_halt k m x o left to e none =
    settled_halt k m x o left (store_buffered k (seen_memory m left) x o) (seen_memory m left)
    (must_wait k (seen_memory m left) left x o) (after_step_of k (seen_memory m left) x o) to refl e none

-- a drain leaves the core as it is
step_halt : (k : Setting) (m : List ℕ) (left : Pending) (x : Core) (o : Outcome) (to : Next)
    → after_step k m left x o ≡ Some to → halt_of x ≡ None → halt_of to.1.1 ≡ halt_told o
step_halt k m [] x Drained to e none = cc
step_halt k m (oldest ∷ younger) x Drained to e none =
    ap (λ (q : Next). halt_of q.1.1) (sym (same_Some _ to e)) ∙ none
step_halt k m left x Plain to e none = goes_halt k m x Plain left to e none
step_halt k m left x Loaded to e none = goes_halt k m x Loaded left to e none
step_halt k m left x (Stopped why) to e none = goes_halt k m x (Stopped why) left to e none
step_halt k m left x Idle to e none = goes_halt k m x Idle left to e none
step_halt k m left x Begun to e none = goes_halt k m x Begun left to e none
step_halt k m left x Inside to e none = goes_halt k m x Inside left to e none
step_halt k m left x Committed to e none = goes_halt k m x Committed left to e none
step_halt k m left x (Aborted status) to e none = goes_halt k m x (Aborted status) left to e none
step_halt k m left x (AbortedBy by status) to e none = goes_halt k m x (AbortedBy by status) left to e none

-- the step of a core, by its move
pub record Moved (k : Setting) (a : State) (c : ℕ) (o : Outcome) (next : State) : Type 0 where
  pub to : Next
  pub moves : after_step k a.memory (a.pending c) (a.cores c) o ≡ Some to
  pub is : state_with a c to ≡ next

by_move : (k : Setting) (a : State) (c : ℕ) (o : Outcome) (next : State) (b : Bool) (x : Option Next)
    → after_step k a.memory (a.pending c) (a.cores c) o ≡ x →
    cond b (option_map (state_with a c) x) None ≡ Some next → Moved k a c o next
by_move k a c o next false x moves e = cc
by_move k a c o next true None moves e = cc
by_move k a c o next true (Some p) moves e = record { to = p; moves = moves; is = same_Some (state_with a c p) next e }

move_of : (k : Setting) (a : State) (c : ℕ) (o : Outcome) (next : State) → step k a c o ≡ Some next → Moved k a c o next
move_of k a c o next e =
    by_move k a c o next (ltb c a.count) (after_step k a.memory (a.pending c) (a.cores c) o) refl e

cores_with : (a : State) (c j : ℕ) (p : Next) (b : Bool) → eqb j c ≡ b
    → (state_with a c p).cores j ≡ cond b p.1.1 (a.cores j)
cores_with a c j p b e = ap (λ (t : Bool). cond t p.1.1 (a.cores j)) e

pub other_same : (k : Setting) (a : State) (c : ℕ) (o : Outcome) (next : State) (j : ℕ) → step k a c o ≡ Some next
    → eqb j c ≡ false →
    halt_of (next.cores j) ≡ halt_of (a.cores j)
other_same k a c o next j e other =
    let move = move_of k a c o next e in
    ap (λ (x : State). halt_of (x.cores j)) (sym move.is) ∙ ap halt_of (cores_with a c j move.to false other)

pub own_after : (k : Setting) (a : State) (c : ℕ) (o : Outcome) (next : State) → step k a c o ≡ Some next
    → eqb c c ≡ true → halt_of (a.cores c) ≡ None →
    halt_of (next.cores c) ≡ halt_told o
own_after k a c o next e self none =
    let move = move_of k a c o next e in
    ap (λ (x : State). halt_of (x.cores c)) (sym move.is) ∙ (ap halt_of (cores_with a c c move.to true self)
    ∙ step_halt k a.memory (a.pending c) (a.cores c) o move.to move.moves none)

-- ---- a history and one more step

pub run_last : (k : Setting) (a : State) (h : List (ℕ × Outcome)) (x : ℕ × Outcome) (y z : State)
    → run k a (h ++ x ∷ []) ≡ Some z → run k a h ≡ Some y →
    step k y x.0 x.1 ≡ Some z
run_last k a [] x y z e there =
    let same : a ≡ y = same_Some a y there in
    subst (λ (s : State). step k s x.0 x.1 ≡ Some z) same
    (option_and_then_some (λ (next : State). run k next []) (step k a x.0 x.1) z e (λ s is e2. is ∙ e2))
run_last k a (t ∷ h) x y z e there =
    option_and_then_some (λ (next : State). run k next (h ++ x ∷ [])) (step k a t.0 t.1) z e (λ s is e2.
    option_and_then_some (λ (next : State). run k next h) (step k a t.0 t.1) y there (λ r was there2.
    let same : r ≡ s = same_Some r s (sym was ∙ is) in
    run_last k s h x y z e2 (subst (λ (q : State). run k q h ≡ Some y) same there2)))
