-- A core that has stopped stays so, whichever core steps.
use Rattle.std.proofs.Common.{◌≡◌, ℕ, ◌<◌, Bool, true, false, cond, eqb, ltb, List, [], ◌∷◌, length, Option, Some, None}
use Rattle.std.proofs.Common.{refl, sym, ap, ◌∙◌, subst, arith}
use Rattle.std.specs.Option.{option_map}
use Rattle.std.proofs.lemmas.Bool.{eqb-true, ltb-true, ltb-false}
use Rattle.std.proofs.lemmas.List.{get_or_past}
use Rattle.std.proofs.lemmas.Option.{option_and_then_some, same_Some}
use Rattle.ia_regs.specs.declared.Regs.{Regs}
use Rattle.tm_rule.specs.declared.kinds.Stop.{Stop}
use Rattle.tm_rule.specs.declared.kinds.OutsideResult.{OutsideResult}
use Rattle.tm_rule.specs.declared.kinds.OutsideResult.TheVariants.{Goes, Begins, Stops}
use Rattle.tm_model.specs.Conflicts.{addresses_loaded_by, addresses_written_by, doom_after_other, doom_after_own}
use Rattle.tm_model.specs.Conflicts.{doomed_after}
use Rattle.tm_model.specs.Isolated.{Body, isolated_body}
use Rattle.tm_model.specs.Setting.{Setting}
use Rattle.tm_model.specs.Types.{Store}
use Rattle.tm_model.specs.Shown.{View, view_between, view_inside, view_midway, view_of, view_of_body, view_outside}
use Rattle.tm_model.specs.State.{Closed, Core, Halted, Midway, Opened, Pending, State, seen_by, seen_memory, with_store}
use Rattle.tm_model.specs.Steps.{Next, after_step, must_wait, settled, state_with, step, store_buffered}
use Rattle.tm_core.proofs.StoreBufferStep.{core_settled}
use Rattle.tm_core.specs.Theorem.{SameMachine, ShownMachine as Machine, StandsFor, TakesStepUnder, machine_setting}
use Rattle.tm_core.specs.Theorem.{no_regs, view_at}
use Rattle.tm_hist.specs.Board.{stop_shown}
use Rattle.tm_model.specs.declared.outcome.Outcome.{Outcome}
use Rattle.tm_model.specs.declared.outcome.Outcome.TheVariants.{Plain, Loaded, Stopped, Idle, Begun, Inside, Committed}
use Rattle.tm_model.specs.declared.outcome.Outcome.TheVariants.{Aborted, AbortedBy, Drained}
use Rattle.tm_model.specs.declared.outcome.Event.{Event}
use Rattle.tm_model.specs.declared.outcome.CoreState.{CoreState}
use Rattle.tm_model.specs.declared.outcome.CoreState.TheVariants.{Running, Mid, Open, Condemned, Stopped as AtStop}

-- a core that shows a stop is halted, and not doomed
pub record IsHalted (x : Core) (dx : Option ℕ) (why : Stop) : Type 0 where
  pub regs : Regs
  pub core : x ≡ Halted regs why
  pub doom : dx ≡ None

module _ (k : Setting) (m : List ℕ) (why : Stop) where
  no_stop : (mode : CoreState) (s : Regs) (v : View) → stop_shown mode ≡ None → view_outside mode s ≡ v
      → stop_shown v.mode ≡ Some why → ⊥
  no_stop mode s v none e stop =
      let e2 : stop_shown mode ≡ Some why = ap (λ (u : View). stop_shown u.mode) e ∙ stop in cc

  no_open : (s : Regs) (b : Body) (v : View) → view_inside s b ≡ Some v → stop_shown v.mode ≡ Some why → ⊥
  no_open s b v =
      elim (eqb b.depth 0) as (λ t. cond t None (Some (view_of_body s b)) ≡ Some v → stop_shown v.mode ≡ Some why → ⊥) [
        | true ↦ λ e stop. cc
        | false ↦ λ e stop. let e2 : stop_shown (Open b.depth) ≡ Some why =
            ap (λ (u : View). stop_shown u.mode) (same_Some (view_of_body s b) v e) ∙ stop in cc
      ]

  no_midway : (s : Regs) (value : ℕ) (o : OutsideResult) (v : View) → view_midway s value o ≡ Some v
      → stop_shown v.mode ≡ Some why → ⊥
  no_midway s value (Goes t w) v e stop = let e2 : stop_shown Mid ≡ Some why =
      ap (λ (u : View). stop_shown u.mode) (same_Some (view_between s value) v e) ∙ stop in cc
  no_midway s value (Begins t) v e stop = cc
  no_midway s value (Stops x) v e stop = cc

  pub is_halted : (x : Core) (dx : Option ℕ) (v : View) → view_of k m x dx ≡ Some v → stop_shown v.mode ≡ Some why
      → IsHalted x dx why
  is_halted (Closed s) None v e stop = absurd (no_stop Running s v refl (same_Some (view_outside Running s) v e) stop)
  is_halted (Closed s) (Some depth) v e stop = cc
  is_halted (Midway s value) None v e stop = absurd (no_midway s value (k.outside s value) v e stop)
  is_halted (Midway s value) (Some depth) v e stop = cc
  is_halted (Halted s y) None v e stop =
      let same : y ≡ why =
      same_Some y why (ap (λ (u : View). stop_shown u.mode) (same_Some (view_outside (AtStop y) s) v e) ∙ stop) in
      record { regs = s; core = ap (Halted s) same; doom = refl }
  is_halted (Halted s y) (Some depth) v e stop = cc
  is_halted (Opened s n) (Some depth) v e stop =
      absurd (no_stop (Condemned depth) s v refl (same_Some (view_outside (Condemned depth) s) v e) stop)
  is_halted (Opened s n) None v e stop =
      absurd (option_and_then_some (view_inside s) (isolated_body k s m n) v e (λ b is e2. no_open s b v e2 stop))

-- no rule moves it
not_moved : (t : Bool) (change : Option Next) (q : Next) → change ≡ None → cond t None change ≡ Some q → ⊥
not_moved true change q none e = cc
not_moved false change q none e = cc

idles : (t : Bool) (m : List ℕ) (p : Pending) (s : Regs) (why : Stop) (store : Option Store) (q : Next)
    → cond t None (Some (settled m p store (seen_memory m p, Halted s why))) ≡ Some q → q.1.1 ≡ Halted s why
idles true m p s why store q e = cc
idles false m p s why store q e =
    ap (λ (n : Next). n.1.1) (sym (same_Some (settled m p store (seen_memory m p, Halted s why)) q e))
    ∙ core_settled m p store (seen_memory m p) (Halted s why)

halted_moved : (k : Setting) (m : List ℕ) (p : Pending) (s : Regs) (why : Stop) (o : Outcome) (q : Next)
    → after_step k m p (Halted s why) o ≡ Some q → q.1.1 ≡ Halted s why
halted_moved k m [] s why Drained q e = cc
halted_moved k m (oldest ∷ younger) s why Drained q e =
    ap (λ (n : Next). n.1.1) (sym (same_Some (with_store m oldest, (younger, Halted s why)) q e))
halted_moved k m p s why Idle q e =
    idles (must_wait k (seen_memory m p) p (Halted s why) Idle) m p s why
    (store_buffered k (seen_memory m p) (Halted s why) Idle) q e
halted_moved k m p s why Plain q e =
    absurd (not_moved (must_wait k (seen_memory m p) p (Halted s why) Plain) None q refl e)
halted_moved k m p s why Loaded q e =
    absurd (not_moved (must_wait k (seen_memory m p) p (Halted s why) Loaded) None q refl e)
halted_moved k m p s why (Stopped x) q e =
    absurd (not_moved (must_wait k (seen_memory m p) p (Halted s why) (Stopped x)) None q refl e)
halted_moved k m p s why Begun q e =
    absurd (not_moved (must_wait k (seen_memory m p) p (Halted s why) Begun) None q refl e)
halted_moved k m p s why Inside q e =
    absurd (not_moved (must_wait k (seen_memory m p) p (Halted s why) Inside) None q refl e)
halted_moved k m p s why Committed q e =
    absurd (not_moved (must_wait k (seen_memory m p) p (Halted s why) Committed) None q refl e)
halted_moved k m p s why (Aborted status) q e =
    absurd (not_moved (must_wait k (seen_memory m p) p (Halted s why) (Aborted status)) None q refl e)
halted_moved k m p s why (AbortedBy by status) q e =
    absurd (not_moved (must_wait k (seen_memory m p) p (Halted s why) (AbortedBy by status)) None q refl e)

not_doomed : (o : Outcome) → doom_after_own o None ≡ None
not_doomed Plain = refl
not_doomed Loaded = refl
not_doomed (Stopped x) = refl
not_doomed Idle = refl
not_doomed Begun = refl
not_doomed Inside = refl
not_doomed Committed = refl
not_doomed (Aborted status) = refl
not_doomed (AbortedBy by status) = refl
not_doomed Drained = refl

-- the step of a core, by its move
pub record Moved (k : Setting) (a : State) (c : ℕ) (o : Outcome) (next : State) : Type 0 where
  pub to : Next
  pub moves : after_step k a.memory (a.pending c) (a.cores c) o ≡ Some to
  pub is : state_with a c to ≡ next

pub by_move : (k : Setting) (a : State) (c : ℕ) (o : Outcome) (next : State) (b : Bool) (x : Option Next)
    → after_step k a.memory (a.pending c) (a.cores c) o ≡ x →
    cond b (option_map (state_with a c) x) None ≡ Some next → Moved k a c o next
by_move k a c o next false x moves e = cc
by_move k a c o next true None moves e = cc
by_move k a c o next true (Some p) moves e = record { to = p; moves = moves; is = same_Some (state_with a c p) next e }

-- a halted core after a step of any core
still_halted : (k : Setting) (a : State) (d : ℕ → Option ℕ) (c j : ℕ) (o : Outcome) (why : Stop) (next : State)
    → step k a c o ≡ Some next →
    (h : IsHalted (a.cores j) (d j) why) → IsHalted (next.cores j) (doomed_after k a d c o j) why
still_halted k a d c j o why next e h =
    let move : Moved k a c o next =
    by_move k a c o next (ltb c a.count) (after_step k a.memory (a.pending c) (a.cores c) o) refl e in
    let loads : List ℕ = addresses_loaded_by k (seen_by a c) (a.cores c) o in
    let stores : List ℕ = addresses_written_by k a.memory (a.pending c) (a.cores c) o in
    subst (λ (x : State). IsHalted (x.cores j) (doomed_after k a d c o j) why) move.is
    (elim (eqb j c) as (λ t. eqb j c ≡ t → IsHalted (cond t move.to.1.1 (a.cores j)) (cond t (doom_after_own o (d c))
    (doom_after_other k (seen_by a j) loads stores (a.cores j) (d j))) why) [
      | true ↦ λ same.
          let at : j ≡ c = eqb-true j c same in
          let core : a.cores c ≡ Halted h.regs why = ap a.cores (sym at) ∙ h.core in
          let doom : d c ≡ None = ap d (sym at) ∙ h.doom in
          record {
            regs = h.regs;
            core = halted_moved k a.memory (a.pending c) h.regs why o move.to
                (ap (λ x. after_step k a.memory (a.pending c) x o) (sym core) ∙ move.moves);
            doom = ap (doom_after_own o) doom ∙ not_doomed o;
          }
      | false ↦ λ other. record {
        regs = h.regs;
        core = h.core;
        doom = ap (λ x. doom_after_other k (seen_by a j) loads stores x (d j)) h.core ∙ h.doom;
      }
    ] refl)

shows_stop : (k : Setting) (m : List ℕ) (x : Core) (dx : Option ℕ) (v : View) (why : Stop) → IsHalted x dx why
    → view_of k m x dx ≡ Some v → stop_shown v.mode ≡ Some why
shows_stop k m x dx v why h e =
    let e2 : view_of k m (Halted h.regs why) None ≡ Some v =
    ap (λ y. view_of k m y None) (sym h.core) ∙ ap (view_of k m x) (sym h.doom) ∙ e in
    ap (λ (u : View). stop_shown u.mode) (sym (same_Some (view_outside (AtStop why) h.regs) v e2))

-- a core that shows a stop is there
pub is_there : (machine : Machine) (j : ℕ) (why : Stop) → stop_shown (view_at machine j).mode ≡ Some why
    → j < length machine.views
is_there machine j why stop =
    elim (ltb j (length machine.views)) as (λ t. ltb j (length machine.views) ≡ t → j < length machine.views) [
      | true ↦ λ e. ltb-true j (length machine.views) e
      | false ↦ λ e.
          let e2 : stop_shown Running ≡ Some why =
          ap (λ (u : View). stop_shown u.mode)
          (sym (get_or_past machine.views j (view_outside Running no_regs) (ltb-false j (length machine.views) e)))
          ∙ stop in
          cc
    ] refl

pub stays_stopped : (event : Option Event) (old new : Machine) (a : State) (d : ℕ → Option ℕ) (c : ℕ) (o : Outcome)
    → StandsFor old a d → SameMachine old new → TakesStepUnder event old new a d c o →
    (j : ℕ) (why : Stop) → stop_shown (view_at old j).mode ≡ Some why → stop_shown (view_at new j).mode ≡ Some why
stays_stopped event old new a d c o stands same takes j why stop =
    let below : j < length old.views = is_there old j why stop in
    let cores : length new.views ≡ length old.views = same.cores in
    let within : j < length new.views = omega arith in
    let before : IsHalted (a.cores j) (d j) why =
    is_halted (machine_setting old) (seen_by a j) why (a.cores j) (d j) (view_at old j) (stands.each j below) stop in
    let after : IsHalted (takes.next.cores j) (doomed_after (machine_setting old) a d c o j) why =
    still_halted (machine_setting old) a d c j o why takes.next takes.is_step before in
    shows_stop (machine_setting new) (seen_by takes.next j) (takes.next.cores j)
    (doomed_after (machine_setting old) a d c o j) (view_at new j) why after (takes.stands.each j within)

is_stop : (mode : CoreState) (why : Stop) → stop_shown mode ≡ Some why → mode ≡ AtStop why
is_stop (AtStop x) why e = ap AtStop (same_Some x why e)
is_stop Running why e = cc
is_stop Mid why e = cc
is_stop (Open depth) why e = cc
is_stop (Condemned depth) why e = cc

-- the same of a machine whose stopped cores stay so
pub keeps_stops : (old new : Machine) →
    ((j : ℕ) (why : Stop) → j < length old.views → (view_at old j).mode ≡ AtStop why
    → (view_at new j).mode ≡ AtStop why) →
    (j : ℕ) (why : Stop) → stop_shown (view_at old j).mode ≡ Some why → stop_shown (view_at new j).mode ≡ Some why
keeps_stops old new stay j why stop =
    ap stop_shown (stay j why (is_there old j why stop) (is_stop (view_at old j).mode why stop))

-- a running core shows no stop
pub shows_none : (mode : CoreState) (why : Stop) → mode ≡ Running → stop_shown mode ≡ Some why → ⊥
shows_none mode why running stop = let e : stop_shown Running ≡ Some why = ap stop_shown (sym running) ∙ stop in cc
