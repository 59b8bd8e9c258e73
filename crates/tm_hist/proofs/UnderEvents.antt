-- What a step answers, under an event from outside of the program or under none.
use Rattle.std.proofs.Common.{◌≡◌, ℕ, true, false, cond, eqb, List, [], ◌∷◌, Option, Some, None, refl, sym, ap, ◌∙◌}
use Rattle.std.proofs.Common.{inl, inr, subst}
use Rattle.std.proofs.lemmas.Option.{option_and_then_some, same_Some}
use Rattle.ia_regs.specs.declared.Regs.{Regs}
use Rattle.tm_rule.specs.declared.kinds.OutsideResult.{OutsideResult}
use Rattle.tm_rule.specs.declared.kinds.OutsideResult.TheVariants.{Goes, Begins, Stops}
use Rattle.tm_model.specs.declared.outcome.CoreState.{CoreState}
use Rattle.tm_model.specs.declared.outcome.CoreState.TheVariants.{Running, Mid, Open, Condemned, Stopped as AtStop}
use Rattle.tm_model.specs.declared.outcome.Event.{Event}
use Rattle.tm_model.specs.declared.outcome.Event.TheVariants as event
use Rattle.tm_model.specs.declared.outcome.Interference.{Interference}
use Rattle.tm_model.specs.Isolated.{Body, isolated_body}
use Rattle.tm_model.specs.declared.outcome.Outcome.{Outcome}
use Rattle.tm_model.specs.declared.outcome.Outcome.TheVariants.{Plain, Loaded, Stopped, Idle, Begun, Inside, Committed}
use Rattle.tm_model.specs.declared.outcome.Outcome.TheVariants.{Aborted, AbortedBy, Drained}
use Rattle.tm_model.specs.Owed.{abort_by, depth_of, owed_outcome, owed_under}
use Rattle.tm_model.specs.Runs.{IsOwedUnder, doomed_at_end, event_told, is_aborted_by}
use Rattle.tm_model.specs.Setting.{Setting}
use Rattle.tm_model.specs.Shown.{View, view_between, view_inside, view_midway, view_of, view_of_body, view_outside}
use Rattle.tm_model.specs.State.{Closed, Core, Halted, Midway, Opened, Pending, State, opening_state}
use Rattle.tm_core.specs.Theorem.{ShownMachine as Machine, StandsFor, TakesStep, TakesStepUnder, machine_setting}
use Rattle.tm_model.proofs.Events.{no_event_told}
use Rattle.tm_hist.specs.Board.{IsHistory, IsOwedNext, ShownBoard, TellsAsShown, TellsOf, TellsWithPending}
use Rattle.tm_hist.specs.Board.{board_setting}

-- with no store pending, what is owed is owed on memory alone
pub owed_alone : (event : Option Event) (k : Setting) (a : State) (d : ℕ → Option ℕ) (c : ℕ) → [] ≡ a.pending c
    → owed_under event k a.memory (a.pending c) (a.cores c) (d c)
    ≡ owed_under event k a.memory [] (a.cores c) (d c)
owed_alone event k a d c none = ap (λ q. owed_under event k a.memory q (a.cores c) (d c)) (sym none)

-- so a step under no event tells of none
pub tells_none : (old new : Machine) (a : State) (d : ℕ → Option ℕ) (c : ℕ) (o : Outcome) → [] ≡ a.pending c
    → TakesStep old new a d c o → event_told o ≡ None
tells_none old new a d c o none takes =
    ap event_told (takes.is_owed ∙ owed_alone None (machine_setting old) a d c none)
    ∙ no_event_told (machine_setting old) a.memory (a.cores c) (d c)

module _ (by : Interference) (k : Setting) (m : List ℕ) (o : Outcome) where
  -- an abort from outside of the program, told by what a core showed
  abbrev Tells : View → Type 0
  Tells v = TellsAsShown (event.Abort by) v.mode o

  -- where the step is the one under no event
  none_told : (x : Core) (dx : Option ℕ) → o ≡ owed_outcome k m x dx → event_told o ≡ None
  none_told x dx owes = ap event_told owes ∙ no_event_told k m x dx

  tells_midway : (s : Regs) (value : ℕ) (r : OutsideResult) (v : View) → event_told o ≡ None
      → view_midway s value r ≡ Some v → Tells v
  tells_midway s value (Goes t w) v none e = subst Tells (same_Some (view_between s value) v e) none
  tells_midway s value (Begins t) v none e = absurd (cc)
  tells_midway s value (Stops x) v none e = absurd (cc)

  tells_inside : (s : Regs) (b : Body) (v : View) → o ≡ abort_by by b.depth → view_inside s b ≡ Some v → Tells v
  tells_inside s b v owes =
      elim (eqb b.depth 0) as (λ t. cond t None (Some (view_of_body s b)) ≡ Some v → Tells v) [
        | true ↦ λ e. absurd (cc)
        | false ↦ λ e. subst Tells (same_Some (view_of_body s b) v e) owes
      ]

  pub tells_shown : (x : Core) (dx : Option ℕ) (v : View) → view_of k m x dx ≡ Some v
      → o ≡ owed_under (Some (event.Abort by)) k m [] x dx → Tells v
  tells_shown (Closed s) None v e owes =
      subst Tells (same_Some (view_outside Running s) v e) (none_told (Closed s) None owes)
  tells_shown (Closed s) (Some depth) v e owes = absurd (cc)
  tells_shown (Midway s value) None v e owes =
      tells_midway s value (k.outside s value) v (none_told (Midway s value) None owes) e
  tells_shown (Midway s value) (Some depth) v e owes = absurd (cc)
  tells_shown (Halted s why) None v e owes =
      subst Tells (same_Some (view_outside (AtStop why) s) v e) (none_told (Halted s why) None owes)
  tells_shown (Halted s why) (Some depth) v e owes = absurd (cc)
  tells_shown (Opened s n) (Some depth) v e owes =
      subst Tells (same_Some (view_outside (Condemned depth) s) v e) (none_told (Opened s n) (Some depth) owes)
  tells_shown (Opened s n) None v e owes =
      option_and_then_some (view_inside s) (isolated_body k s m n) v e
      (λ b is e2. tells_inside s b v (owes ∙ ap (λ (x : Option Body). abort_by by (depth_of x)) is) e2)

-- a step of a board's machine, from each state that it stands for
abbrev pub Takes : Option Event → ShownBoard → Machine → ℕ → Outcome → Type 0
Takes event b new c o =
    (a : State) (d : ℕ → Option ℕ) → StandsFor b.machine a d → TakesStepUnder event b.machine new a d c o

-- what is told where no abort from outside of the program is
pub tells_no_abort : (event : Option Event) (o : Outcome) → is_aborted_by o ≡ false → TellsOf event o
tells_no_abort event (AbortedBy by status) none = absurd (cc)
tells_no_abort event Drained none = inr (inr refl)
tells_no_abort event Plain none = inl refl
tells_no_abort event Loaded none = inl refl
tells_no_abort event (Stopped stop) none = inl refl
tells_no_abort event Idle none = inl refl
tells_no_abort event Begun none = inl refl
tells_no_abort event Inside none = inl refl
tells_no_abort event Committed none = inl refl
tells_no_abort event (Aborted status) none = inl refl

-- so it tells of that event, or of none, or it is a drain
pub tells_of : (event : Event) (pending : Pending) (shown : CoreState) (o : Outcome)
    → TellsWithPending event pending shown o → TellsOf (Some event) o
tells_of (event.Abort by) pending (Open depth) o h = inr (inl (ap event_told h))
tells_of event.Drain (oldest ∷ younger) shown o h = inr (inr h)
tells_of event.Drain [] shown o h = inl h
tells_of (event.Abort by) [] Running o h = inl h
tells_of (event.Abort by) [] Mid o h = inl h
tells_of (event.Abort by) [] (Condemned depth) o h = inl h
tells_of (event.Abort by) [] (AtStop why) o h = inl h
tells_of (event.Abort by) (oldest ∷ younger) Running o h = tells_no_abort (Some (event.Abort by)) o h
tells_of (event.Abort by) (oldest ∷ younger) Mid o h = tells_no_abort (Some (event.Abort by)) o h
tells_of (event.Abort by) (oldest ∷ younger) (Condemned depth) o h = tells_no_abort (Some (event.Abort by)) o h
tells_of (event.Abort by) (oldest ∷ younger) (AtStop why) o h = tells_no_abort (Some (event.Abort by)) o h

-- what it answers is owed behind the board's history
pub owed_behind : (event : Option Event) (b : ShownBoard) (new : Machine) (c : ℕ) (o : Outcome) → IsHistory b
    → Takes event b new c o → IsOwedNext event b c o
owed_behind event b new c o h takes end is =
    let doom : ℕ → Option ℕ = doomed_at_end (board_setting b) (opening_state b.program) (λ _. None) b.history in
    let same : h.end ≡ end = same_Some h.end end (sym h.is_run ∙ is) in
    subst (λ (a : State). IsOwedUnder event (board_setting b) a doom c o) same
    (subst (λ (k : Setting). IsOwedUnder event k h.end doom c o) h.rules (takes h.end doom h.stands).is_owed)
