-- Transactions as they went (TransactionsAsTheyWent): the bodies that cores made step by step, between steps of others,
-- are those that are made at once at the XEND, where nobody was hit.
use Rattle.std.proofs.Common.{◌≡◌, ℕ, suc, ◌<◌, Bool, true, false, cond, eqb, nat_lt, List, [], ◌∷◌, length, Option}
use Rattle.std.proofs.Common.{Some, None, refl, sym, ap, ◌∙◌, subst}
use Rattle.std.specs.Prelude.{option_and_then, option_map, if◌then◌else◌, MatchOption}
use Rattle.std.proofs.lemmas.Option.{option_and_then_some, same_Some}
use Rattle.std.proofs.lemmas.Bool.{lt-ltb, ltb-true, true≢false}
use Rattle.tm_model.specs.Access.{memory_after, stores_of}
use Rattle.tm_model.specs.Conflicts.{addresses_at_once, addresses_loaded_by, addresses_written_by, depth_at_hit}
use Rattle.tm_model.specs.Conflicts.{doom_after_other, doom_after_own, doomed_after, is_hit}
use Rattle.tm_model.specs.Isolated.{Body, isolated_body, longer_body, read_set}
use Rattle.tm_model.specs.Owed.{abort_at, owed_under}
use Rattle.tm_model.specs.Runs.{AreOwed, doomed_at_end, event_told}
use Rattle.tm_model.specs.Setting.{Setting, outside_at, value_at}
use Rattle.tm_model.specs.Shown.{View, ViewsStandFor, body_alone, view_between, view_inside, view_midway, view_of}
use Rattle.tm_model.specs.Shown.{view_outside, view_with_body}
use Rattle.tm_model.specs.State.{Closed, Core, Halted, Midway, Opened, Pending, State, opening_state, seen_by}
use Rattle.tm_model.specs.State.{seen_memory, with_store}
use Rattle.tm_model.specs.Steps.{Change, Next, after_begin, after_commit, after_load, after_plain, after_step}
use Rattle.tm_model.specs.Steps.{after_step_by, after_step_of, after_stop, must_wait, registers_after_abort, run}
use Rattle.tm_model.specs.Steps.{settled}
use Rattle.tm_model.specs.Steps.{state_with, step, stop_number, store_buffered}
use Rattle.tm_model.specs.Went.{StateWithBodies, after_step_with_body, body_after, opening_with_bodies}
use Rattle.tm_model.specs.Went.{run_with_bodies, state_with_body, step_with_body}
use Rattle.tm_model.specs.declared.outcome.Event.TheVariants as event
use Rattle.tm_core.specs.PendingStep.{PendingResult, pending_then, stepped_pending, views_then}
use Rattle.tm_core.specs.Theorem.{TransactionsAsTheyWent, condemned_depth, machine_setting, pending_at}
use Rattle.tm_core.specs.Theorem.{view_at}
use Rattle.tm_core.specs.Types.{Aborted, AbortedBy, AtStop, Begins, Begun, Committed, Condemned, Conflict, Drained}
use Rattle.tm_core.specs.Types.{Event}
use Rattle.tm_core.specs.Types.{Goes, Idle, Inside, Loaded, Outcome, OutsideResult, Plain, Regs, Running, Stop, Stopped}
use Rattle.tm_core.specs.Types.{Stops, Store}
use Rattle.tm_core.proofs.BufferLemmas.{lines_on}
use Rattle.tm_core.proofs.Frame.{frame, length-memory_after}
use Rattle.tm_core.proofs.OtherCores.{Agree, agree_seen, length-seen, stores_missed, view_inside_is}
use Rattle.tm_core.proofs.Sound.{Sound}
use Rattle.tm_core.proofs.SteppingCore.{isolated_body-suc}
use Rattle.tm_core.proofs.StoreBufferStep as settle
use Rattle.tm_core.proofs.StoreBufferStep.{DrainsNone, Right, agree_settled, alone_drains, core_settled, is_drained}
use Rattle.tm_core.proofs.StoreBufferStep.{length-settled, right_step, told_writes}
use Rattle.tm_core.proofs.Table.{sound}

-- ---- the core that steps

body_alone-suc : (k : Setting) (s : Regs) (m : List ℕ) (n : ℕ) (b : Body) → isolated_body k s m n ≡ Some b
    → isolated_body k s m (suc n) ≡ option_and_then (longer_body k m) (isolated_body k s m n)
body_alone-suc k s m n b e = isolated_body-suc k s m n b e ∙ ap (option_and_then (longer_body k m)) (sym e)

-- a body that bodies as by itself does so with the next instruction too
more : (k : Setting) (m : List ℕ) (s : Regs) (n : ℕ) (w : Option Body) (v : View)
    → view_of k m (Opened s n) None ≡ Some v → w ≡ isolated_body k s m n
    → option_and_then (longer_body k m) w ≡ isolated_body k s m (suc n)
more k m s n w v is same =
    option_and_then_some (view_inside s) (isolated_body k s m n) v is (λ b e1 e2.
    ap (option_and_then (longer_body k m)) same ∙ sym (body_alone-suc k s m n b e1))

-- a doomed transaction does not commit
waits_not : (t : Bool) (status : ℕ) → Committed ≡ (if t then Drained else Aborted status) → ⊥
waits_not true status is = cc
waits_not false status is = cc

never_commits : (event : Option Event) (k : Setting) (m : List ℕ) (p : Pending) (s : Regs) (n depth : ℕ)
    → Committed ≡ owed_under event k m p (Opened s n) (Some depth) → ⊥
never_commits None k m p s n depth is =
    waits_not (must_wait k (seen_memory m p) p (Opened s n) (abort_at Conflict depth)) _ is
never_commits (Some event.Drain) k m [] s n depth is = cc
never_commits (Some event.Drain) k m (oldest ∷ younger) s n depth is = cc
never_commits (Some (event.Abort by)) k m p s n depth is =
    waits_not (must_wait k (seen_memory m p) p (Opened s n) (abort_at Conflict depth)) _ is

-- the owed step is the same with the body that bodies
same_with_body : (event : Option Event) (k : Setting) (m : List ℕ) (p : Pending) (x : Core) (w : Option Body)
    (dx : Option ℕ) (o : Outcome) (v : View) → o ≡ owed_under event k m p x dx
    → view_of k (seen_memory m p) x dx ≡ Some v
    → (dx ≡ None → w ≡ body_alone k (seen_memory m p) x)
    → after_step_with_body k (seen_memory m p) x w o ≡ after_step_of k (seen_memory m p) x o
same_with_body event k m p (Closed s) w dx o v owes is same = refl
same_with_body event k m p (Midway s value) w dx o v owes is same = refl
same_with_body event k m p (Halted s x) w dx o v owes is same = refl
same_with_body event k m p (Opened s n) w dx Plain v owes is same = refl
same_with_body event k m p (Opened s n) w dx Loaded v owes is same = refl
same_with_body event k m p (Opened s n) w dx (Stopped x) v owes is same = refl
same_with_body event k m p (Opened s n) w dx Idle v owes is same = refl
same_with_body event k m p (Opened s n) w dx Begun v owes is same = refl
same_with_body event k m p (Opened s n) w dx Inside v owes is same = refl
same_with_body event k m p (Opened s n) w dx (Aborted status) v owes is same = refl
same_with_body event k m p (Opened s n) w dx (AbortedBy by status) v owes is same = refl
same_with_body event k m p (Opened s n) w dx Drained v owes is same = refl
same_with_body event k m p (Opened s n) w (Some depth) Committed v owes is same =
    absurd (never_commits event k m p s n depth owes)
same_with_body event k m p (Opened s n) w None Committed v owes is same =
    ap (option_and_then (after_commit (seen_memory m p))) (more k (seen_memory m p) s n w v is (same refl))

abbrev no_step : Option Next
no_step = None

-- what a step puts where does not depend on how its change of what the core sees is said
made : {one other : Change} (k : Setting) (m : List ℕ) (p : Pending) (x : Core) (o : Outcome) → one ≡ other
    → (if must_wait k (seen_memory m p) p x o then no_step
    else option_map (settled m p (store_buffered k (seen_memory m p) x o)) one)
    ≡ (if must_wait k (seen_memory m p) p x o then no_step
    else option_map (settled m p (store_buffered k (seen_memory m p) x o)) other)
made k m p x o same = ap (λ change. if must_wait k (seen_memory m p) p x o then no_step
    else option_map (settled m p (store_buffered k (seen_memory m p) x o)) change) same

same_by : (one other : List ℕ → Core → Outcome → Change) (k : Setting) (m : List ℕ) (p : Pending) (x : Core)
    (o : Outcome) → one (seen_memory m p) x o ≡ other (seen_memory m p) x o
    → after_step_by one k m p x o ≡ after_step_by other k m p x o
same_by one other k m p x Drained same = refl
same_by one other k m p x Plain same = made k m p x Plain same
same_by one other k m p x Loaded same = made k m p x Loaded same
same_by one other k m p x (Stopped stop) same = made k m p x (Stopped stop) same
same_by one other k m p x Idle same = made k m p x Idle same
same_by one other k m p x Begun same = made k m p x Begun same
same_by one other k m p x Inside same = made k m p x Inside same
same_by one other k m p x Committed same = made k m p x Committed same
same_by one other k m p x (Aborted status) same = made k m p x (Aborted status) same
same_by one other k m p x (AbortedBy by status) same = made k m p x (AbortedBy by status) same

after_plain_closed : (k : Setting) (m : List ℕ) (o : OutsideResult) (q : List ℕ × Core) → after_plain m o ≡ Some q
    → None ≡ body_alone k q.0 q.1
after_plain_closed k m (Goes t w) q e =
    ap (λ (p : List ℕ × Core). body_alone k p.0 p.1) (same_Some (memory_after m (stores_of w), Closed t) q e)
after_plain_closed k m (Begins t) q e = cc
after_plain_closed k m (Stops x) q e = cc

after_load_closed : (k : Setting) (m : List ℕ) (s : Regs) (value : ℕ) (o : OutsideResult) (q : List ℕ × Core)
    → after_load m s value o ≡ Some q → None ≡ body_alone k q.0 q.1
after_load_closed k m s value (Goes t w) q e =
    ap (λ (p : List ℕ × Core). body_alone k p.0 p.1) (same_Some (m, Midway s value) q e)
after_load_closed k m s value (Begins t) q e = cc
after_load_closed k m s value (Stops x) q e = cc

-- in one step or in two
one_closed : (k : Setting) (m : List ℕ) (two : Bool) (o : OutsideResult) (q : List ℕ × Core)
    → cond two None (after_plain m o) ≡ Some q → None ≡ body_alone k q.0 q.1
one_closed k m true o q e = cc
one_closed k m false o q e = after_plain_closed k m o q e

two_closed : (k : Setting) (m : List ℕ) (s : Regs) (value : ℕ) (two : Bool) (o : OutsideResult) (q : List ℕ × Core)
    → cond two (after_load m s value o) None ≡ Some q → None ≡ body_alone k q.0 q.1
two_closed k m s value true o q e = after_load_closed k m s value o q e
two_closed k m s value false o q e = cc

after_stop_closed : (k : Setting) (m : List ℕ) (s : Regs) (x : Stop) (o : OutsideResult) (q : List ℕ × Core)
    → after_stop m s x o ≡ Some q → None ≡ body_alone k q.0 q.1
after_stop_closed k m s x (Goes t w) q = λ e. cc
after_stop_closed k m s x (Begins t) q = λ e. cc
after_stop_closed k m s x (Stops y) q =
    elim (eqb (stop_number x) (stop_number y))
    as (λ t. cond t (Some (m, Halted s x)) None ≡ Some q → None ≡ body_alone k q.0 q.1) [
      | true ↦ λ e. ap (λ (p : List ℕ × Core). body_alone k p.0 p.1) (same_Some (m, Halted s x) q e)
      | false ↦ λ e. cc
    ]

after_commit_closed : (k : Setting) (m : List ℕ) (b : Body) (q : List ℕ × Core) → after_commit m b ≡ Some q
    → None ≡ body_alone k q.0 q.1
after_commit_closed k m b q =
    elim (eqb b.depth 0)
    as (λ t. cond t (Some (memory_after m b.stores, Closed b.regs)) None ≡ Some q → None ≡ body_alone k q.0 q.1) [
      | true ↦
          λ e. ap (λ (p : List ℕ × Core). body_alone k p.0 p.1) (same_Some (memory_after m b.stores, Closed b.regs) q e)
      | false ↦ λ e. cc
    ]

begin_alone : (k : Setting) (m : List ℕ) (s : Regs) (o : OutsideResult) (q : List ℕ × Core) → after_begin m s o ≡ Some q
    → isolated_body k s m 1 ≡ body_alone k q.0 q.1
begin_alone k m s (Goes t w) q e = cc
begin_alone k m s (Begins t) q e = ap (λ (p : List ℕ × Core). body_alone k p.0 p.1) (same_Some (m, Opened s 1) q e)
begin_alone k m s (Stops x) q e = cc

-- after its own step a core's body bodies as by itself
went_own : (k : Setting) (m : List ℕ) (x : Core) (w : Option Body) (dx : Option ℕ) (o : Outcome) (q : List ℕ × Core)
    (v : View) → after_step_of k m x o ≡ Some q → view_of k m x dx ≡ Some v → (dx ≡ None → w ≡ body_alone k m x)
    → doom_after_own o dx ≡ None → body_after k m x w o ≡ body_alone k q.0 q.1
went_own k m (Closed s) w dx Plain q v e is same free = one_closed k m (k.takes_two_steps s) (outside_at k s m) q e
went_own k m (Closed s) w dx Loaded q v e is same free =
    two_closed k m s (value_at k s m) (k.takes_two_steps s) (outside_at k s m) q e
went_own k m (Closed s) w dx (Stopped x) q v e is same free = after_stop_closed k m s x (outside_at k s m) q e
went_own k m (Closed s) w dx Begun q v e is same free = begin_alone k m s (outside_at k s m) q e
went_own k m (Closed s) w dx Idle q v e is same free = cc
went_own k m (Closed s) w dx Inside q v e is same free = cc
went_own k m (Closed s) w dx Committed q v e is same free = cc
went_own k m (Closed s) w dx (Aborted status) q v e is same free = cc
went_own k m (Closed s) w dx (AbortedBy by status) q v e is same free = cc
went_own k m (Closed s) w dx Drained q v e is same free = cc
went_own k m (Midway s value) w dx Plain q v e is same free = after_plain_closed k m (k.outside s value) q e
went_own k m (Midway s value) w dx Loaded q v e is same free = cc
went_own k m (Midway s value) w dx (Stopped x) q v e is same free = cc
went_own k m (Midway s value) w dx Begun q v e is same free = cc
went_own k m (Midway s value) w dx Idle q v e is same free = cc
went_own k m (Midway s value) w dx Inside q v e is same free = cc
went_own k m (Midway s value) w dx Committed q v e is same free = cc
went_own k m (Midway s value) w dx (Aborted status) q v e is same free = cc
went_own k m (Midway s value) w dx (AbortedBy by status) q v e is same free = cc
went_own k m (Midway s value) w dx Drained q v e is same free = cc
went_own k m (Halted s x) w dx Idle q v e is same free =
    ap (λ (p : List ℕ × Core). body_alone k p.0 p.1) (same_Some (m, Halted s x) q e)
went_own k m (Halted s x) w dx Plain q v e is same free = cc
went_own k m (Halted s x) w dx Loaded q v e is same free = cc
went_own k m (Halted s x) w dx (Stopped y) q v e is same free = cc
went_own k m (Halted s x) w dx Begun q v e is same free = cc
went_own k m (Halted s x) w dx Inside q v e is same free = cc
went_own k m (Halted s x) w dx Committed q v e is same free = cc
went_own k m (Halted s x) w dx (Aborted status) q v e is same free = cc
went_own k m (Halted s x) w dx (AbortedBy by status) q v e is same free = cc
went_own k m (Halted s x) w dx Drained q v e is same free = cc
went_own k m (Opened s n) w dx Inside q v e is same free =
    more k m s n w v (subst (λ d. view_of k m (Opened s n) d ≡ Some v) free is) (same free)
    ∙ ap (λ (p : List ℕ × Core). body_alone k p.0 p.1) (same_Some (m, Opened s (suc n)) q e)
went_own k m (Opened s n) w dx Committed q v e is same free =
    option_and_then_some (after_commit m) (isolated_body k s m (suc n)) q e (λ b e1 e2. after_commit_closed k m b q e2)
went_own k m (Opened s n) w dx (Aborted status) q v e is same free =
    ap (λ (p : List ℕ × Core). body_alone k p.0 p.1) (same_Some (m, Closed (registers_after_abort k s status)) q e)
went_own k m (Opened s n) w dx (AbortedBy by status) q v e is same free =
    ap (λ (p : List ℕ × Core). body_alone k p.0 p.1) (same_Some (m, Closed (registers_after_abort k s status)) q e)
went_own k m (Opened s n) w dx Plain q v e is same free = cc
went_own k m (Opened s n) w dx Loaded q v e is same free = cc
went_own k m (Opened s n) w dx (Stopped x) q v e is same free = cc
went_own k m (Opened s n) w dx Idle q v e is same free = cc
went_own k m (Opened s n) w dx Begun q v e is same free = cc
went_own k m (Opened s n) w dx Drained q v e is same free = cc

-- ---- the others

missed : (loads stores : List ℕ) (b : Body) → depth_at_hit loads stores (Some b) ≡ None → is_hit loads stores b ≡ false
missed loads stores b =
    elim (is_hit loads stores b) as (λ t. cond t (Some b.depth) None ≡ None → t ≡ false) [
      | true ↦ λ e. cc
      | false ↦ λ e. refl
    ]

-- the body of a core that no step hits stays as it is
went_other : (k : Setting) (m after loads stores : List ℕ) → length m ≡ length after → Agree m after stores → (y : Core)
    (w : Option Body) (dy : Option ℕ) (v : View) → view_of k m y dy ≡ Some v → (dy ≡ None → w ≡ body_alone k m y)
    → doom_after_other k m loads stores y dy ≡ None → w ≡ body_alone k after y
went_other k m after loads stores len agree (Closed s) w dy v is same free = same free
went_other k m after loads stores len agree (Midway s value) w dy v is same free = same free
went_other k m after loads stores len agree (Halted s x) w dy v is same free = same free
went_other k m after loads stores len agree (Opened s n) w (Some depth) v is same free = cc
went_other k m after loads stores len agree (Opened s n) w None v is same free =
    option_and_then_some (view_inside s) (isolated_body k s m n) v is (λ b e1 e2.
    let apart : is_hit loads stores b ≡ false =
    missed loads stores b (ap (depth_at_hit loads stores) (sym e1) ∙ free) in
    same refl ∙ e1
    ∙ sym (frame k s m after n b len (agree (read_set b) b.loads (lines_on b.loads)
    (stores_missed loads stores b apart)) e1))

-- ---- one step

-- each core that is not doomed bodies as by itself
abbrev pub AreAlone : Setting → ℕ → State → (ℕ → Option Body) → (ℕ → Option ℕ) → Type 0
AreAlone k cores a w d = (j : ℕ) → j < cores → d j ≡ None → w j ≡ body_alone k (seen_by a j) (a.cores j)

-- an owed step of core c, with the bodies as they bodies
pub record OneGoes (k : Setting) (cores : ℕ) (a : State) (w : ℕ → Option Body) (d : ℕ → Option ℕ) (c : ℕ)
    (o : Outcome) : Type 0 where
  pub next : State
  pub views : ℕ → View
  pub pending : ℕ → Pending
  pub bodies : ℕ → Option Body
  pub steps : step k a c o ≡ Some next
  pub goes : step_with_body k (record { state = a; bodies = w }) c o ≡ Some (record { state = next; bodies = bodies })
  pub size : length next.memory ≡ k.size
  pub stands : ViewsStandFor k cores next.memory views pending next (doomed_after k a d c o)
  pub by_itself : AreAlone k cores next bodies (doomed_after k a d c o)

-- a core's body while one of its stores reaches memory
drained_body : (k : Setting) (m : List ℕ) (x : Core) (w : Option Body) (dx : Option ℕ)
    → (dx ≡ None → w ≡ body_alone k m x) → doom_after_own Drained dx ≡ None
    → body_after k m x w Drained ≡ body_alone k m x
drained_body k m (Closed s) w dx same free = refl
drained_body k m (Midway s value) w dx same free = refl
drained_body k m (Halted s x) w dx same free = refl
drained_body k m (Opened s n) w dx same free = same free

-- the event that an outcome which is no drain tells of drains nothing
tells_apart : (o : Outcome) (p : Pending) → is_drained o ≡ false → DrainsNone (event_told o) p
tells_apart Drained p apart = absurd (true≢false apart)
tells_apart (AbortedBy by status) p apart = tt
tells_apart Plain p apart = tt
tells_apart Loaded p apart = tt
tells_apart (Stopped stop) p apart = tt
tells_apart Idle p apart = tt
tells_apart Begun p apart = tt
tells_apart Inside p apart = tt
tells_apart Committed p apart = tt
tells_apart (Aborted status) p apart = tt

module _ (k : Setting) (sound : Sound k) (cores : ℕ) (a : State) (w : ℕ → Option Body) (d : ℕ → Option ℕ) (c : ℕ)
    (views : ℕ → View) (size : length a.memory ≡ k.size)
    (each : (j : ℕ) → j < cores → view_of k (seen_by a j) (a.cores j) (d j) ≡ Some (views j)) (below : c < cores)
    (counted : cores ≡ a.count) (same : AreAlone k cores a w d) where
  abbrev seen : List ℕ
  seen = seen_by a c

  abbrev p : Pending
  p = a.pending c

  abbrev x : Core
  x = a.cores c

  abbrev now : StateWithBodies
  now = record { state = a; bodies = w }

  exists : nat_lt c a.count ≡ true
  exists = lt-ltb c a.count (subst (λ n. c < n) counted below)

  -- by what is then in memory and pending, and by the body of the core itself
  module _ (event : Option Event) (o : Outcome) (owes : o ≡ owed_under event k a.memory p x (d c)) (q : Next)
      (is : after_step k a.memory p x o ≡ Some q) (long : length q.0 ≡ length a.memory)
      (agree : (j : ℕ) → Agree (seen_by a j) (seen_memory q.0 (a.pending j)) (addresses_written_by k a.memory p x o))
      (own : doom_after_own o (d c) ≡ None → body_after k seen x (w c) o ≡ body_alone k (seen_memory q.0 q.1.0) q.1.1)
    where
      abbrev next : State
      next = state_with a c q

      abbrev own_body : Option Body
      own_body = body_after k seen x (w c) o

      abbrev dd : ℕ → Option ℕ
      dd = doomed_after k a d c o

      abbrev result : PendingResult
      result = stepped_pending event k a.memory p (views c)

      abbrev views2 : ℕ → View
      views2 = views_then views c result

      abbrev pending2 : ℕ → Pending
      pending2 = pending_then a.pending c result

      is_right : Right event k cores a d c o result.memory views2 pending2
      is_right =
          let there : Right event k cores a d c result.outcome result.memory views2 pending2 =
          right_step k sound cores a d c views size each below counted event in
          subst (λ z. Right event k cores a d c z result.memory views2 pending2) (there.owes ∙ sym owes) there

      steps_by : step k a c o ≡ Some next
      steps_by =
          ap (λ t. cond t (option_map (state_with a c) (after_step k a.memory p x o)) None) exists
          ∙ ap (option_map (state_with a c)) is

      stands_by : ViewsStandFor k cores q.0 views2 pending2 next dd
      stands_by =
          let there : ViewsStandFor k cores result.memory views2 pending2 next dd =
          subst (λ z. ViewsStandFor k cores result.memory views2 pending2 z dd)
          (same_Some is_right.next next (sym is_right.steps ∙ steps_by)) is_right.stands in
          subst (λ n. ViewsStandFor k cores n views2 pending2 next dd) there.same_memory there

      goes_by : step_with_body k now c o ≡ Some (state_with_body now c own_body q)
      goes_by =
          ap (λ t. cond t (option_map (state_with_body now c own_body)
          (after_step_by (λ m y z. after_step_with_body k m y (w c) z) k a.memory p x o)) None) exists
          ∙ ap (option_map (state_with_body now c own_body))
          (same_by (λ m y z. after_step_with_body k m y (w c) z) (after_step_of k) k a.memory p x o
          (same_with_body event k a.memory p x (w c) (d c) o (views c) owes (each c below) (same c below)) ∙ is)

      abbrev loads : List ℕ
      loads = addresses_loaded_by k seen x o

      abbrev written : List ℕ
      written = addresses_written_by k a.memory p x o

      one_by : OneGoes k cores a w d c o
      one_by = record {
        next = next;
        views = views2;
        pending = pending2;
        bodies = λ j. cond (eqb j c) own_body (w j);
        steps = steps_by;
        goes = goes_by;
        size = long ∙ size;
        stands = stands_by;
        by_itself = λ j within.
            elim (eqb j c) as (λ t. cond t (doom_after_own o (d c))
            (doom_after_other k (seen_by a j) loads written (a.cores j) (d j)) ≡ None → cond t own_body (w j)
            ≡ body_alone k (seen_memory q.0 (cond t q.1.0 (a.pending j))) (cond t q.1.1 (a.cores j))) [
              | true ↦ own
              | false ↦ λ free. went_other k (seen_by a j) (seen_memory q.0 (a.pending j)) loads written
                  (length-seen a.memory (a.pending j) ∙ sym long ∙ sym (length-seen q.0 (a.pending j))) (agree j)
                  (a.cores j) (w j) (d j) (views j) (each j within) (same j within) free
            ];
      }

  -- the oldest store reaches memory
  drains_at : (z : Pending) → p ≡ z → Drained ≡ owed_under (Some event.Drain) k a.memory p x (d c)
      → OneGoes k cores a w d c Drained
  drains_at [] none owes =
      absurd (true≢false (ap is_drained (owes ∙ ap (λ z. owed_under (Some event.Drain) k a.memory z x (d c)) none)
      ∙ alone_drains (Some event.Drain) k a.memory x (d c)))
  drains_at (oldest ∷ younger) some owes =
      one_by (Some event.Drain) Drained owes (with_store a.memory oldest, (younger, x))
      (ap (λ z. after_step k a.memory z x Drained) some)
      (length-memory_after a.memory (stores_of (Some oldest)))
      (λ j. subst (λ z. Agree (seen_by a j) (seen_memory (with_store a.memory oldest) (a.pending j))
      (addresses_written_by k a.memory z x Drained)) (sym some)
      (agree_seen a.memory (a.pending j) (stores_of (Some oldest))))
      (λ free. drained_body k seen x (w c) (d c) (same c below) free
      ∙ ap (λ z. body_alone k (seen_memory a.memory z) x) some)

  -- or the core steps
  steps_on : (o : Outcome) → is_drained o ≡ false → o ≡ owed_under (event_told o) k a.memory p x (d c)
      → OneGoes k cores a w d c o
  steps_on o apart owes =
      let event : Option Event = event_told o in
      let goes = settle.goes_as event k sound cores a d c views size each below counted (tells_apart o p apart) o apart
      owes in
      let mine = settle.mine event k sound cores a d c views size each below counted in
      let made : Outcome = (settle.r event k sound cores a d c views size each below counted).outcome in
      let store : Option Store = settle.store event k sound cores a d c views size each below counted in
      let q : Next = settle.after event k sound cores a d c views size each below counted in
      let told : is_drained made ≡ false = settle.told event k sound cores a d c views size each below counted in
      subst (OneGoes k cores a w d c) (sym goes.1)
      (one_by event made (sym goes.1 ∙ owes) q
      (settle.after_is event k sound cores a d c views size each below counted goes.0)
      (length-settled a.memory p mine.next store mine.stores)
      (λ j. subst (Agree (seen_by a j) (seen_memory q.0 (a.pending j)))
      (ap (addresses_at_once store) mine.wrote ∙ sym (told_writes k a.memory p x made told))
      (agree_settled a.memory (a.pending j) p mine.next store mine.stores))
      (λ free. went_own k seen x (w c) (d c) made (memory_after seen mine.stores, mine.next) (views c) mine.moves
      (each c below) (same c below) free
      ∙ ap (λ m. body_alone k m mine.next)
      (sym (settle.seen_is event k sound cores a d c views size each below counted goes.0))
      ∙ ap (body_alone k (seen_memory q.0 q.1.0))
      (sym (core_settled a.memory p store (memory_after seen mine.stores) mine.next))))

  pub one_goes : (o : Outcome) → o ≡ owed_under (event_told o) k a.memory p x (d c) → OneGoes k cores a w d c o
  one_goes Drained = drains_at p refl
  one_goes Plain = steps_on Plain refl
  one_goes Loaded = steps_on Loaded refl
  one_goes (Stopped stop) = steps_on (Stopped stop) refl
  one_goes Idle = steps_on Idle refl
  one_goes Begun = steps_on Begun refl
  one_goes Inside = steps_on Inside refl
  one_goes Committed = steps_on Committed refl
  one_goes (Aborted status) = steps_on (Aborted status) refl
  one_goes (AbortedBy by status) = steps_on (AbortedBy by status) refl

-- ---- lists of steps

step_exists : (k : Setting) (a : State) (c : ℕ) (o : Outcome) (b : State) → step k a c o ≡ Some b
    → nat_lt c a.count ≡ true
step_exists k a c o b =
    elim (nat_lt c a.count) as (λ t. cond t (option_map (state_with a c)
    (after_step k a.memory (a.pending c) (a.cores c) o)) None ≡ Some b → t ≡ true) [
      | true ↦ λ e. refl
      | false ↦ λ e. cc
    ]

pub all_go : (k : Setting) → Sound k → (cores : ℕ) (views : ℕ → View) (pending : ℕ → Pending) (a : State)
    (w : ℕ → Option Body) (d : ℕ → Option ℕ) (ps : List (ℕ × Outcome)) (last : State) →
    length a.memory ≡ k.size → ViewsStandFor k cores a.memory views pending a d → AreAlone k cores a w d
    → AreOwed k a d ps → run k a ps ≡ Some last →
    (w2 : ℕ → Option Body)
    × (run_with_bodies k (record { state = a; bodies = w }) ps ≡ Some (record { state = last; bodies = w2 }))
    × AreAlone k cores last w2 (doomed_at_end k a d ps)
all_go k sound cores views pending a w d [] last size stands same owes e =
    let e2 : a ≡ last = same_Some a last e in (
      w,
      ap (λ (b : State). Some (record { state = b; bodies = w })) e2,
      subst (λ (b : State). AreAlone k cores b w d) e2 same,
    )
all_go k sound cores views pending a w d (p ∷ ps) last size stands same owes e =
    let below : p.0 < cores =
    option_and_then_some (λ b. run k b ps) (step k a p.0 p.1) last e
    (λ b e1 e2. subst (λ n. p.0 < n) (sym stands.same_count) (ltb-true p.0 a.count (step_exists k a p.0 p.1 b e1))) in
    let one : OneGoes k cores a w d p.0 p.1 =
    one_goes k sound cores a w d p.0 views size stands.each below stands.same_count same p.1 owes.0 in
    let d2 : ℕ → Option ℕ = doomed_after k a d p.0 p.1 in
    let owes2 : AreOwed k one.next d2 ps = subst (λ s. MatchOption s ⊥ (λ b. AreOwed k b d2 ps)) one.steps owes.1 in
    let e2 : run k one.next ps ≡ Some last = subst (λ s. option_and_then (λ b. run k b ps) s ≡ Some last) one.steps e in
    let rest : (w2 : ℕ → Option Body) × (run_with_bodies k (record { state = one.next; bodies = one.bodies }) ps
    ≡ Some (record { state = last; bodies = w2 })) × AreAlone k cores last w2 (doomed_at_end k one.next d2 ps) =
    all_go k sound cores one.views one.pending one.next one.bodies d2 ps last one.size one.stands one.by_itself owes2
    e2 in (
      rest.0,
      ap (option_and_then (λ h. run_with_bodies k h ps)) one.goes ∙ rest.1,
      subst (λ s. AreAlone k cores last rest.0 (elim s [ None ↦ d | Some b ↦ doomed_at_end k b d2 ps ]))
          (sym one.steps) rest.2,
    )

-- ---- what is shown

marks_midway : (s : Regs) (value : ℕ) (o : OutsideResult) (v : View) → view_midway s value o ≡ Some v
    → condemned_depth v.mode ≡ None
marks_midway s value (Goes t w) v e =
    ap (λ (u : View). condemned_depth u.mode) (sym (same_Some (view_between s value) v e))
marks_midway s value (Begins t) v e = cc
marks_midway s value (Stops x) v e = cc

marks : (k : Setting) (x : Core) (b : Option Body) (dx : Option ℕ) (v : View) → view_with_body k x b dx ≡ Some v
    → condemned_depth v.mode ≡ dx
marks k (Closed s) b None v e = ap (λ (u : View). condemned_depth u.mode) (sym (same_Some (view_outside Running s) v e))
marks k (Closed s) b (Some depth) v e = cc
marks k (Midway s value) b None v e = marks_midway s value (k.outside s value) v e
marks k (Midway s value) b (Some depth) v e = cc
marks k (Halted s x) b None v e =
    ap (λ (u : View). condemned_depth u.mode) (sym (same_Some (view_outside (AtStop x) s) v e))
marks k (Halted s x) b (Some depth) v e = cc
marks k (Opened s n) b (Some depth) v e =
    ap (λ (u : View). condemned_depth u.mode) (sym (same_Some (view_outside (Condemned depth) s) v e))
marks k (Opened s n) b None v e = option_and_then_some (view_inside s) b v e
    (λ x e1 e2. ap (λ (u : View). condemned_depth u.mode) (sym (view_inside_is s x v e2).1))

-- of a doomed core no body is shown
by_body : (k : Setting) (x : Core) (b c : Option Body) (dx : Option ℕ) (v : View) → (dx ≡ None → b ≡ c)
    → view_with_body k x c dx ≡ Some v → view_with_body k x b dx ≡ Some v
by_body k (Closed s) b c None v same e = e
by_body k (Closed s) b c (Some depth) v same e = cc
by_body k (Midway s value) b c None v same e = e
by_body k (Midway s value) b c (Some depth) v same e = cc
by_body k (Halted s x) b c None v same e = e
by_body k (Halted s x) b c (Some depth) v same e = cc
by_body k (Opened s n) b c (Some depth) v same e = e
by_body k (Opened s n) b c None v same e = ap (option_and_then (view_inside s)) (same refl) ∙ e

pub as_they_went : TransactionsAsTheyWent
as_they_went start now p steps stands is =
    let k : Setting = machine_setting start in
    let a : State = opening_state p in
    let d : ℕ → Option ℕ = λ _. None in
    let n : ℕ = length start.views in
    let stands1 : ViewsStandFor k n a.memory (view_at start) (pending_at start) a d =
    subst (λ m. ViewsStandFor k n m (view_at start) (pending_at start) a d) stands.same_memory stands in
    let all :
    (w2 : ℕ → Option Body)
    × (run_with_bodies k (opening_with_bodies p) steps ≡ Some (record { state = is.takes.last; bodies = w2 }))
    × AreAlone k n is.takes.last w2 (doomed_at_end k a d steps) =
    all_go k
    (sound start.code start.base (length start.memory) start.read_lines start.write_lines start.store_buffer) n
    (view_at start) (pending_at start) a (λ _. None) d steps is.takes.last (ap length (sym stands.same_memory)) stands1
    (λ j within free. refl)
    is.takes.are_owed is.takes.is_run in
    let last : State = is.takes.last in
    let dd : ℕ → Option ℕ = doomed_at_end k a d steps in
    let same_cores : length now.views ≡ n = is.same.cores in
    let each :
    (j : ℕ) → j < length now.views → view_of k (seen_by last j) (last.cores j) (dd j) ≡ Some (view_at now j) =
    λ j within. subst (λ (x : Setting). view_of x (seen_by last j) (last.cores j) (dd j) ≡ Some (view_at now j))
    is.same.rules (is.takes.stands.each j within) in
    let marked : (j : ℕ) → j < length now.views → condemned_depth (view_at now j).mode ≡ dd j =
    λ j within. marks k (last.cores j) (body_alone k (seen_by last j) (last.cores j)) (dd j) (view_at now j)
    (each j within) in
    record {
      end = record { state = last; bodies = all.0 };
      goes = all.1;
      memory = is.takes.stands.same_memory;
      count = is.takes.stands.same_count;
      shows = λ j within. subst (λ t. view_with_body k (last.cores j) (all.0 j) t ≡ Some (view_at now j))
          (sym (marked j within))
          (by_body k (last.cores j) (all.0 j) (body_alone k (seen_by last j) (last.cores j)) (dd j) (view_at now j)
          (all.2 j (subst (λ x. j < x) same_cores within)) (each j within));
      by_itself = λ j within free. all.2 j (subst (λ x. j < x) same_cores within) (sym (marked j within) ∙ free)
          ∙ ap (λ m. body_alone k m (last.cores j))
          (λ i. seen_memory (sym is.takes.stands.same_memory i) (sym (is.takes.stands.same_pending j within) i));
      same_run = is.takes.is_run;
    }
