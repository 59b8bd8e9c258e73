-- A core that has stopped has no store pending, whatever the run (SDM volume 3, 12.10).
use Rattle.std.proofs.Common.{◌≡◌, ℕ, suc, Bool, true, false, List, [], ◌∷◌, Option, Some}
use Rattle.std.proofs.Common.{None, refl, sym, ap, ◌∙◌, subst, nat_eq, nat_lt, if◌then◌else◌}
use Rattle.std.specs.Option.{option_and_then, option_map}
use Rattle.std.proofs.lemmas.Option.{option_and_then_some, same_Some}
use Rattle.ia_image.specs.Program.{ProgramValue as Program}
use Rattle.tm_core.proofs.StoreBufferStep.{core_settled}
use Rattle.tm_model.specs.Isolated.{Body, isolated_body}
use Rattle.tm_model.specs.Setting.{Setting, outside_at, value_at}
use Rattle.tm_model.specs.State.{Closed, Core, Halted, Midway, Opened, Pending, State, opening_state, seen_memory}
use Rattle.tm_model.specs.State.{with_store}
use Rattle.tm_model.specs.Steps.{Change, Next, after_begin, after_commit, after_load, after_plain, after_step}
use Rattle.tm_model.specs.Steps.{after_step_of, after_stop, must_wait, run, settled, step}
use Rattle.tm_model.specs.Steps.{store_buffered, store_outside}
use Rattle.tm_model.specs.Types.{Begins, Goes, OutsideResult, Regs, Stop, Stops, Store}
use Rattle.tm_model.specs.declared.outcome.Outcome.{Outcome}
use Rattle.tm_model.specs.declared.outcome.Outcome.TheVariants.{Plain, Loaded, Stopped, Idle, Begun, Inside, Committed}
use Rattle.tm_model.specs.declared.outcome.Outcome.TheVariants.{Aborted, AbortedBy, Drained}
use Rattle.tm_hist.specs.Queues.{with_queue}
use Rattle.tm_hist.specs.Serial.{stop_of}
use Rattle.tm_hist.proofs.QueueSteps.{is_drained, on_memory, refused, unfolds}
use Rattle.tm_hist.proofs.Stops.{Moved, by_move}

-- ---- a step on what the core sees: only a stop stops a core

-- the change leaves a core that goes on
abbrev GoesOn : Change → Type 0
GoesOn None = Unit {0}
GoesOn (Some change) = stop_of change.1 ≡ None

either : (t : Bool) (one other : Change) → GoesOn one → GoesOn other → GoesOn (if t then one else other)
either true one other first second = first
either false one other first second = second

plain_on : (m : List ℕ) (r : OutsideResult) → GoesOn (after_plain m r)
plain_on m (Goes next store) = refl
plain_on m (Begins next) = tt
plain_on m (Stops stop) = tt

load_on : (m : List ℕ) (regs : Regs) (value : ℕ) (r : OutsideResult) → GoesOn (after_load m regs value r)
load_on m regs value (Goes next store) = refl
load_on m regs value (Begins next) = tt
load_on m regs value (Stops stop) = tt

begin_on : (m : List ℕ) (regs : Regs) (r : OutsideResult) → GoesOn (after_begin m regs r)
begin_on m regs (Goes next store) = tt
begin_on m regs (Begins next) = refl
begin_on m regs (Stops stop) = tt

commit_on : (m : List ℕ) (body : Option Body) → GoesOn (option_and_then (after_commit m) body)
commit_on m None = tt
commit_on m (Some body) = either (nat_eq body.depth 0) _ None refl tt

-- of a core that has not stopped, by a step that is no stop
abbrev is_stop : Outcome → Bool
is_stop (Stopped stop) = true
is_stop outcome = false

goes_on : (k : Setting) (m : List ℕ) (x : Core) (o : Outcome) → stop_of x ≡ None → is_stop o ≡ false →
    GoesOn (after_step_of k m x o)
goes_on k m (Closed regs) Plain runs stop =
    either (k.takes_two_steps regs) None _ tt (plain_on m (outside_at k regs m))
goes_on k m (Closed regs) Loaded runs stop =
    either (k.takes_two_steps regs) _ None (load_on m regs (value_at k regs m) (outside_at k regs m)) tt
goes_on k m (Closed regs) Begun runs stop = begin_on m regs (outside_at k regs m)
goes_on k m (Midway regs value) Plain runs stop = plain_on m (k.outside regs value)
goes_on k m (Opened regs steps) Inside runs stop = refl
goes_on k m (Opened regs steps) Committed runs stop = commit_on m (isolated_body k regs m (suc steps))
goes_on k m (Opened regs steps) (Aborted status) runs stop = refl
goes_on k m (Opened regs steps) (AbortedBy by status) runs stop = refl
goes_on k m (Halted regs why) o runs stop = cc
goes_on k m x (Stopped why) runs stop = cc
goes_on k m x o runs stop = tt

-- ---- with stores pending

-- a core that has stopped has none
abbrev StopsWithNone : Core → Pending → Type 0
StopsWithNone x p = (why : Stop) → stop_of x ≡ Some why → p ≡ []

runs_on : (m : List ℕ) (p : Pending) (s : Option Store) (change : Change) (n : Next) → GoesOn change →
    option_map (settled m p s) change ≡ Some n → stop_of n.1.1 ≡ None
runs_on m p s None n on e = cc
runs_on m p s (Some change) n on e =
    ap (λ (next : Next). stop_of next.1.1) (sym (same_Some (settled m p s change) n e))
    ∙ ap stop_of (core_settled m p s change.0 change.1) ∙ on

if_waits : (t : Bool) (m : List ℕ) (p : Pending) (s : Option Store) (change : Change) (n : Next) → GoesOn change →
    (if t then None else option_map (settled m p s) change) ≡ Some n → stop_of n.1.1 ≡ None
if_waits true m p s change n on e = cc
if_waits false m p s change n on e = runs_on m p s change n on e

-- the step of a core that goes on
still_on : (k : Setting) (m : List ℕ) (p : Pending) (x : Core) (o : Outcome) (n : Next) → stop_of x ≡ None →
    is_stop o ≡ false → is_drained o ≡ false → after_step k m p x o ≡ Some n → stop_of n.1.1 ≡ None
still_on k m p x o n runs stop drains e =
    if_waits (must_wait k (seen_memory m p) p x o) m p (store_buffered k (seen_memory m p) x o)
    (after_step_of k (seen_memory m p) x o) n (goes_on k (seen_memory m p) x o runs stop)
    (sym (unfolds k m p x o drains) ∙ e)

abbrev none : Pending
none = []

left_with_none : (m : List ℕ) (t : Bool) (change : Change) (n : Next) →
    option_map (settled m [] (if t then None else None)) change ≡ Some n → n.1.0 ≡ []
left_with_none m true None n e = cc
left_with_none m false None n e = cc
left_with_none m true (Some change) n e =
    ap (λ (next : Next). next.1.0) (sym (same_Some (settled m [] None change) n e))
left_with_none m false (Some change) n e =
    ap (λ (next : Next). next.1.0) (sym (same_Some (settled m [] None change) n e))

-- nothing that has a stop goes on
no_stop : (x : Core) (why : Stop) → stop_of x ≡ None → stop_of x ≡ Some why → ⊥
no_stop x why runs stops = let e : ◌≡◌ {A = Option Stop} None (Some why) = sym runs ∙ stops in cc

after_drained : (k : Setting) (m : List ℕ) (p : Pending) (x : Core) (n : Next) → StopsWithNone x p →
    after_step k m p x Drained ≡ Some n → StopsWithNone n.1.1 n.1.0
after_drained k m [] x n had e why stops = cc
after_drained k m (oldest ∷ younger) x n had e why stops =
    let same : x ≡ n.1.1 = ap (λ (next : Next). next.1.1) (same_Some (with_store m oldest, (younger, x)) n e) in
    let empty : oldest ∷ younger ≡ none = had why (ap stop_of same ∙ stops) in
    cc

-- ---- by the outcome

module _ (k : Setting) (m : List ℕ) (p : Pending) (n : Next) where
  running : (x : Core) (o : Outcome) → stop_of x ≡ None → is_stop o ≡ false → is_drained o ≡ false →
      after_step k m p x o ≡ Some n → StopsWithNone n.1.1 n.1.0
  running x o runs stop drains e why stops =
      absurd (no_stop n.1.1 why (still_on k m p x o n runs stop drains e) stops)

  not_made : (x : Core) (o : Outcome) → is_drained o ≡ false → after_step_of k (seen_memory m p) x o ≡ None →
      after_step k m p x o ≡ Some n → StopsWithNone n.1.1 n.1.0
  not_made x o drains none e why stops =
      let bad : ◌≡◌ {A = Option Next} None (Some n) = sym (refused k m p x o drains none) ∙ e in
      cc

  kept_none : (change : Change) → option_map (with_queue []) change ≡ Some n → n.1.0 ≡ []
  kept_none None e = cc
  kept_none (Some change) e = ap (λ (next : Next). next.1.0) (sym (same_Some (with_queue [] change) n e))

  halted_stores : (regs : Regs) (why : Stop) (o : Outcome) → store_outside k m (Halted regs why) o ≡ None
  halted_stores regs why o = refl

  halted : (regs : Regs) (why : Stop) (o : Outcome) → is_drained o ≡ false → p ≡ [] →
      after_step k m p (Halted regs why) o ≡ Some n → StopsWithNone n.1.1 n.1.0
  halted regs why o drains empty e other stops =
      let here : after_step k m [] (Halted regs why) o ≡ Some n =
      ap (λ q. after_step k m q (Halted regs why) o) (sym empty) ∙ e in
      kept_none (after_step_of k m (Halted regs why) o)
      (sym (on_memory k m (Halted regs why) o drains (halted_stores regs why o)) ∙ here)

  by_core : (x : Core) (o : Outcome) → is_stop o ≡ false → is_drained o ≡ false → StopsWithNone x p →
      after_step k m p x o ≡ Some n → StopsWithNone n.1.1 n.1.0
  by_core (Closed regs) o stop drains had e = running (Closed regs) o refl stop drains e
  by_core (Midway regs value) o stop drains had e = running (Midway regs value) o refl stop drains e
  by_core (Opened regs steps) o stop drains had e = running (Opened regs steps) o refl stop drains e
  by_core (Halted regs why) o stop drains had e = halted regs why o drains (had why refl) e

stops_one : (k : Setting) (m : List ℕ) (p : Pending) (regs : Regs) (stop : Stop) (n : Next) →
    after_step k m p (Closed regs) (Stopped stop) ≡ Some n → StopsWithNone n.1.1 n.1.0
stops_one k m [] regs stop n e why stops =
    left_with_none m (nat_eq k.store_buffer 0) (after_stop m regs stop (outside_at k regs m)) n e
stops_one k m (oldest ∷ younger) regs stop n e why stops = cc

after_one : (k : Setting) (m : List ℕ) (p : Pending) (x : Core) (o : Outcome) (n : Next) → StopsWithNone x p →
    after_step k m p x o ≡ Some n → StopsWithNone n.1.1 n.1.0
after_one k m p x Drained n had e = after_drained k m p x n had e
after_one k m p (Closed regs) (Stopped stop) n had e = stops_one k m p regs stop n e
after_one k m p (Midway regs value) (Stopped stop) n had e =
    not_made k m p n (Midway regs value) (Stopped stop) refl refl e
after_one k m p (Opened regs steps) (Stopped stop) n had e =
    not_made k m p n (Opened regs steps) (Stopped stop) refl refl e
after_one k m p (Halted regs why) (Stopped stop) n had e =
    not_made k m p n (Halted regs why) (Stopped stop) refl refl e
after_one k m p x Plain n had e = by_core k m p n x Plain refl refl had e
after_one k m p x Loaded n had e = by_core k m p n x Loaded refl refl had e
after_one k m p x Idle n had e = by_core k m p n x Idle refl refl had e
after_one k m p x Begun n had e = by_core k m p n x Begun refl refl had e
after_one k m p x Inside n had e = by_core k m p n x Inside refl refl had e
after_one k m p x Committed n had e = by_core k m p n x Committed refl refl had e
after_one k m p x (Aborted status) n had e = by_core k m p n x (Aborted status) refl refl had e
after_one k m p x (AbortedBy by status) n had e = by_core k m p n x (AbortedBy by status) refl refl had e

-- ---- a run

-- of each core of a state
abbrev pub AllStopWithNone : State → Type 0
AllStopWithNone a = (j : ℕ) → StopsWithNone (a.cores j) (a.pending j)

after_step_all : (k : Setting) (a : State) (c : ℕ) (o : Outcome) (next : State) → AllStopWithNone a →
    step k a c o ≡ Some next → AllStopWithNone next
after_step_all k a c o next had e j =
    let move : Moved k a c o next =
    by_move k a c o next (nat_lt c a.count) (after_step k a.memory (a.pending c) (a.cores c) o) refl e in
    subst (λ (x : State). StopsWithNone (x.cores j) (x.pending j)) move.is
    (elim (nat_eq j c) as (λ t. StopsWithNone (if t then move.to.1.1 else a.cores j)
    (if t then move.to.1.0 else a.pending j)) [
      | true ↦ after_one k a.memory (a.pending c) (a.cores c) o move.to (had c) move.moves
      | false ↦ had j
    ])

after_run : (k : Setting) (history : List (ℕ × Outcome)) (a end : State) → AllStopWithNone a →
    run k a history ≡ Some end → AllStopWithNone end
after_run k [] a end had e = subst AllStopWithNone (same_Some a end e) had
after_run k (taken ∷ history) a end had e =
    option_and_then_some (λ next. run k next history) (step k a taken.0 taken.1) end e
    (λ next is rest. after_run k history next end (after_step_all k a taken.0 taken.1 next had is) rest)

-- so none is after a program's run
pub stopped_drained : (k : Setting) (program : Program) (history : List (ℕ × Outcome)) (end : State) →
    run k (opening_state program) history ≡ Some end →
    (j : ℕ) (why : Stop) → stop_of (end.cores j) ≡ Some why → end.pending j ≡ []
stopped_drained k program history end e = after_run k history (opening_state program) end (λ j why stops. refl) e
