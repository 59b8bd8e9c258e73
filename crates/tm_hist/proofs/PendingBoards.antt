-- What a step answers where stores of its core may be pending: what it tells of its event, and where it is idle.
use Rattle.std.proofs.Common.{◌≡◌, ℕ, ◌<◌, Bool, true, false, cond, eqb, List, [], ◌∷◌, length, Option, Some, None}
use Rattle.std.proofs.Common.{refl, sym, ap, ◌∙◌, subst, if◌then◌else◌}
use Rattle.std.specs.Prelude.{◌↔◌}
use Rattle.std.proofs.lemmas.Option.{option_and_then_some, same_Some}
use Rattle.ia_regs.specs.declared.Regs.{Regs}
use Rattle.tm_rule.specs.declared.kinds.Stop.{Stop}
use Rattle.tm_rule.specs.declared.kinds.OutsideResult.{OutsideResult}
use Rattle.tm_rule.specs.declared.kinds.OutsideResult.TheVariants.{Goes, Begins, Stops}
use Rattle.tm_model.specs.declared.outcome.CoreState.{CoreState}
use Rattle.tm_model.specs.declared.outcome.CoreState.TheVariants.{Running, Mid, Open, Condemned, Stopped as AtStop}
use Rattle.tm_model.specs.declared.outcome.Event.{Event}
use Rattle.tm_model.specs.declared.outcome.Event.TheVariants as event
use Rattle.tm_model.specs.declared.outcome.Interference.{Interference}
use Rattle.tm_model.specs.declared.outcome.Outcome.{Outcome}
use Rattle.tm_model.specs.declared.outcome.Outcome.TheVariants.{Idle, Drained}
use Rattle.tm_model.specs.Isolated.{Body, isolated_body}
use Rattle.tm_model.specs.Owed.{abort_by, depth_of, owed_outcome, owed_under, owed_with_pending}
use Rattle.tm_model.specs.Runs.{doomed_at_end, event_told, is_aborted_by}
use Rattle.tm_model.specs.Setting.{Setting}
use Rattle.tm_model.specs.Shown.{View, view_between, view_inside, view_midway, view_of, view_of_body, view_outside}
use Rattle.tm_model.specs.State.{Closed, Core, Halted, Midway, Opened, Pending, State, opening_state, seen_by}
use Rattle.tm_model.specs.State.{seen_memory}
use Rattle.tm_model.specs.Steps.{must_wait}
use Rattle.tm_model.specs.Types.{Store}
use Rattle.tm_model.proofs.Events.{aborted_by_none, no_event_told}
use Rattle.tm_core.specs.Theorem.{ShownMachine as Machine, StandsFor, TakesStepUnder, machine_setting, pending_at}
use Rattle.tm_core.specs.Theorem.{view_at}
use Rattle.tm_hist.specs.Board.{IsHistory, ShownBoard, TellsAsShown, TellsWithPending, board_setting}
use Rattle.tm_hist.specs.Serial.{stop_of}
use Rattle.tm_hist.proofs.Idles.{ShowsStop, halted_idles, idle_stops, idle_stops_under}
use Rattle.tm_hist.proofs.Stops.{IsHalted, is_halted}
use Rattle.tm_hist.proofs.UnderEvents.{Takes, tells_shown}

-- ---- what it tells of its event

-- with none pending it is what is told without store buffers
as_shown : (event : Event) (state : CoreState) (o : Outcome) → TellsAsShown event state o
    → TellsWithPending event [] state o
as_shown event.Drain state o h = h
as_shown (event.Abort by) (Open depth) o h = h
as_shown (event.Abort by) Running o h = h
as_shown (event.Abort by) Mid o h = h
as_shown (event.Abort by) (Condemned depth) o h = h
as_shown (event.Abort by) (AtStop why) o h = h

no_abort : (t : Bool) (o : Outcome) → event_told o ≡ None → is_aborted_by (if t then Drained else o) ≡ false
no_abort true o tells = refl
no_abort false o tells = aborted_by_none o tells

module _ (by : Interference) (k : Setting) (m : List ℕ) (oldest : Store) (younger : Pending) (o : Outcome) where
  abbrev pending : Pending
  pending = oldest ∷ younger

  abbrev seen : List ℕ
  seen = seen_memory m pending

  abbrev Tells : View → Type 0
  Tells v = TellsWithPending (event.Abort by) pending v.mode o

  -- where the step is the one under no event
  none_aborted : (x : Core) (dx : Option ℕ) → o ≡ owed_with_pending k m pending x dx → is_aborted_by o ≡ false
  none_aborted x dx owes =
      let owed : Outcome = owed_outcome k seen x dx in
      ap is_aborted_by owes ∙ no_abort (must_wait k seen pending x owed) owed (no_event_told k seen x dx)

  pending_midway : (s : Regs) (value : ℕ) (r : OutsideResult) (v : View) → is_aborted_by o ≡ false
      → view_midway s value r ≡ Some v → Tells v
  pending_midway s value (Goes t w) v none e = subst Tells (same_Some (view_between s value) v e) none
  pending_midway s value (Begins t) v none e = absurd (cc)
  pending_midway s value (Stops x) v none e = absurd (cc)

  pending_inside : (s : Regs) (b : Body) (v : View) → o ≡ abort_by by b.depth → view_inside s b ≡ Some v → Tells v
  pending_inside s b v owes =
      elim (eqb b.depth 0) as (λ t. cond t None (Some (view_of_body s b)) ≡ Some v → Tells v) [
        | true ↦ λ e. absurd (cc)
        | false ↦ λ e. subst Tells (same_Some (view_of_body s b) v e) owes
      ]

  pending_shown : (x : Core) (dx : Option ℕ) (v : View) → view_of k seen x dx ≡ Some v
      → o ≡ owed_under (Some (event.Abort by)) k m pending x dx → Tells v
  pending_shown (Closed s) None v e owes =
      subst Tells (same_Some (view_outside Running s) v e) (none_aborted (Closed s) None owes)
  pending_shown (Closed s) (Some depth) v e owes = absurd (cc)
  pending_shown (Midway s value) None v e owes =
      pending_midway s value (k.outside s value) v (none_aborted (Midway s value) None owes) e
  pending_shown (Midway s value) (Some depth) v e owes = absurd (cc)
  pending_shown (Halted s why) None v e owes =
      subst Tells (same_Some (view_outside (AtStop why) s) v e) (none_aborted (Halted s why) None owes)
  pending_shown (Halted s why) (Some depth) v e owes = absurd (cc)
  pending_shown (Opened s n) (Some depth) v e owes =
      subst Tells (same_Some (view_outside (Condemned depth) s) v e) (none_aborted (Opened s n) (Some depth) owes)
  pending_shown (Opened s n) None v e owes =
      option_and_then_some (view_inside s) (isolated_body k s seen n) v e
      (λ b is e2. pending_inside s b v (owes ∙ ap (λ (x : Option Body). abort_by by (depth_of x)) is) e2)

pub tells_with_pending : (event : Event) (k : Setting) (m : List ℕ) (p : Pending) (x : Core) (dx : Option ℕ) (v : View)
    (o : Outcome) → view_of k (seen_memory m p) x dx ≡ Some v → o ≡ owed_under (Some event) k m p x dx →
    TellsWithPending event p v.mode o
tells_with_pending event.Drain k m [] x dx v o shows owes = ap event_told owes ∙ no_event_told k m x dx
tells_with_pending event.Drain k m (oldest ∷ younger) x dx v o shows owes = owes
tells_with_pending (event.Abort by) k m [] x dx v o shows owes =
    as_shown (event.Abort by) v.mode o (tells_shown by k m o x dx v shows owes)
tells_with_pending (event.Abort by) k m (oldest ∷ younger) x dx v o shows owes =
    pending_shown by k m oldest younger o x dx v shows owes

-- a step of a board's machine under an event
pub tells_with : (event : Event) (b : ShownBoard) (new : Machine) (c : ℕ) (o : Outcome) → IsHistory b
    → c < length b.machine.views → Takes (Some event) b new c o →
    TellsWithPending event (pending_at b.machine c) (view_at b.machine c).mode o
tells_with event b new c o h below takes =
    let doom : ℕ → Option ℕ = doomed_at_end (board_setting b) (opening_state b.program) (λ _. None) b.history in
    subst (λ (p : Pending). TellsWithPending event p (view_at b.machine c).mode o) (sym (h.stands.same_pending c below))
    (tells_with_pending event (machine_setting b.machine) h.end.memory (h.end.pending c) (h.end.cores c) (doom c)
    (view_at b.machine c) o (h.stands.each c below) (takes h.end doom h.stands).is_owed)

-- ---- idle steps

goes : (t : Bool) (o : Outcome) → (if t then Drained else o) ≡ Idle → o ≡ Idle
goes true o i = absurd (cc)
goes false o i = i

idle_waits : (k : Setting) (m : List ℕ) (p : Pending) (x : Core) (dx : Option ℕ) (v : View)
    → view_of k (seen_memory m p) x dx ≡ Some v → owed_with_pending k m p x dx ≡ Idle → ShowsStop v
idle_waits k m p x dx v e i =
    let seen : List ℕ = seen_memory m p in
    let owed : Outcome = owed_outcome k seen x dx in
    idle_stops k seen x dx v e (goes (must_wait k seen p x owed) owed i)

idle_pending : (event : Option Event) (k : Setting) (m : List ℕ) (p : Pending) (x : Core) (dx : Option ℕ) (v : View)
    → view_of k (seen_memory m p) x dx ≡ Some v → owed_under event k m p x dx ≡ Idle → ShowsStop v
idle_pending event k m [] x dx v e i = idle_stops_under event k m x dx v e i
idle_pending None k m (oldest ∷ younger) x dx v e i = idle_waits k m (oldest ∷ younger) x dx v e i
idle_pending (Some event.Drain) k m (oldest ∷ younger) x dx v e i = absurd (cc)
idle_pending (Some (event.Abort by)) k m (oldest ∷ younger) (Opened s n) None v e i = absurd (cc)
idle_pending (Some (event.Abort by)) k m (oldest ∷ younger) (Opened s n) (Some depth) v e i =
    idle_waits k m (oldest ∷ younger) (Opened s n) (Some depth) v e i
idle_pending (Some (event.Abort by)) k m (oldest ∷ younger) (Closed s) dx v e i =
    idle_waits k m (oldest ∷ younger) (Closed s) dx v e i
idle_pending (Some (event.Abort by)) k m (oldest ∷ younger) (Midway s value) dx v e i =
    idle_waits k m (oldest ∷ younger) (Midway s value) dx v e i
idle_pending (Some (event.Abort by)) k m (oldest ∷ younger) (Halted s why) dx v e i =
    idle_waits k m (oldest ∷ younger) (Halted s why) dx v e i

-- a core that has stopped has none pending (StopsDrained), so that its steps are idle, also under a drain
pub idle_with_pending : (event : Option Event) (old new : Machine) (a : State) (d : ℕ → Option ℕ) (c : ℕ) (o : Outcome)
    → ((why : Stop) → stop_of (a.cores c) ≡ Some why → a.pending c ≡ []) → StandsFor old a d → c < length old.views
    → TakesStepUnder event old new a d c o →
    (o ≡ Idle) ↔ ShowsStop (view_at old c)
idle_with_pending event old new a d c o drained stands below takes =
    let k : Setting = machine_setting old in
    let shows : view_of k (seen_by a c) (a.cores c) (d c) ≡ Some (view_at old c) = stands.each c below in (
      λ idle. idle_pending event k a.memory (a.pending c) (a.cores c) (d c) (view_at old c) shows
          (sym takes.is_owed ∙ idle),
      λ stop.
          let h : IsHalted (a.cores c) (d c) stop.0 =
          is_halted k (seen_by a c) stop.0 (a.cores c) (d c) (view_at old c) shows stop.1 in
          let none : a.pending c ≡ [] = drained stop.0 (ap stop_of h.core) in
          takes.is_owed
          ∙ ap (λ p. owed_under event k a.memory p (a.cores c) (d c)) none
          ∙ ap (λ x. owed_under event k a.memory [] x (d c)) h.core
          ∙ halted_idles event k a.memory h.regs stop.0 (d c),
    )
