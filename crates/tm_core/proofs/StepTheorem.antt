-- One step of the machine is the owed step of each state that it stands for, and the machine stands for what follows.
-- StoreBufferStep has the step of a state, MachineLemmas brings it to the code's parts.
use Rattle.std.proofs.Common.{◌≡◌, ℕ, ◌<◌, Bool, true, false, cond, eqb, List, [], ◌∷◌, ◌++◌, length, Option, Some}
use Rattle.std.proofs.Common.{None}
use Rattle.std.proofs.Common.{refl, sym, ap, ◌∙◌, subst}
use Rattle.std.specs.Prelude.{option_and_then, nat_eq, if◌then◌else◌, MatchOption}
use Rattle.std.proofs.lemmas.Option.{same_Some}
use Rattle.tm_model.specs.declared.outcome.Event.TheVariants as event
use Rattle.tm_model.specs.Conflicts.{addresses_loaded_by, doomed_after}
use Rattle.tm_model.specs.Runs.{AreOwed, doomed_at_end}
use Rattle.tm_model.specs.Setting.{Setting}
use Rattle.tm_model.specs.Shown.{View, ViewsStandFor}
use Rattle.tm_model.specs.State.{Core, Pending, State}
use Rattle.tm_model.specs.Steps.{run, settled, step, store_outside}
use Rattle.tm_core.specs.PendingStep.{IsPendingStep, PendingResult, core_like, goes_or_waits, pending_then}
use Rattle.tm_core.specs.PendingStep.{stepped_pending}
use Rattle.tm_core.specs.PendingStep.{touched_now, views_then}
use Rattle.tm_core.specs.Representation.{IsStepUnder}
use Rattle.tm_core.specs.StepRefinement.{StepResult, stepped_under, views_after}
use Rattle.tm_core.specs.Types.{Event, Outcome, Store}
use Rattle.tm_model.proofs.Events.{owed_in_history}
use Rattle.tm_core.proofs.Sound.{Sound}
use Rattle.tm_core.proofs.StoreBufferStep.{Right, right_step}

-- ---- pending stores that are the same of each core

pub stands_pending : (k : Setting) (cores : ℕ) (m : List ℕ) (views : ℕ → View) (p q : ℕ → Pending) (a : State)
    (d : ℕ → Option ℕ) → ((j : ℕ) → j < cores → q j ≡ p j) → ViewsStandFor k cores m views p a d
    → ViewsStandFor k cores m views q a d
stands_pending k cores m views p q a d same h = record {
  same_memory = h.same_memory;
  same_count = h.same_count;
  each = h.each;
  same_pending = λ j below. same j below ∙ h.same_pending j below;
}

pub right_pending : (event : Option Event) (k : Setting) (cores : ℕ) (a : State) (d : ℕ → Option ℕ)
    (c : ℕ) (o : Outcome)
    (m : List ℕ) (views : ℕ → View) (p q : ℕ → Pending) → ((j : ℕ) → j < cores → q j ≡ p j)
    → Right event k cores a d c o m views p → Right event k cores a d c o m views q
right_pending event k cores a d c o m views p q same h = record {
  owes = h.owes;
  next = h.next;
  steps = h.steps;
  stands = stands_pending k cores m views p q h.next (doomed_after k a d c o) same h.stands;
}

-- ---- one step

-- of the machine is the owed step of each state that it stands for
pub one_step : (event : Option Event) (k : Setting) → Sound k → (cores : ℕ) (m : List ℕ) (views : ℕ → View)
    (p : ℕ → Pending) (a : State) (d : ℕ → Option ℕ) (c : ℕ) → length m ≡ k.size → c < cores
    → ViewsStandFor k cores m views p a d →
    let r : PendingResult = stepped_pending event k m (p c) (views c) in
    Right event k cores a d c r.outcome r.memory (views_then views c r) (pending_then p c r)
one_step event k sound cores m views p a d c size below stands =
    let at : List ℕ → Pending → Type 0 =
    λ n q. let r : PendingResult = stepped_pending event k n q (views c) in
    Right event k cores a d c r.outcome r.memory (views_then views c r) (pending_then p c r) in
    let r : PendingResult = stepped_pending event k a.memory (a.pending c) (views c) in
    subst (λ n. at n (p c)) (sym stands.same_memory)
    (subst (at a.memory) (sym (stands.same_pending c below))
    (right_pending event k cores a d c r.outcome r.memory (views_then views c r) (pending_then a.pending c r)
    (pending_then p c r) (λ j h. ap (cond (eqb j c) r.pending) (stands.same_pending j h))
    (right_step k sound cores a d c views (ap length (sym stands.same_memory) ∙ size) stands.each below
    stands.same_count event)))

-- ---- where no store may be pending

-- the step on one memory
abbrev of_step : StepResult → PendingResult
of_step r = record { outcome = r.outcome; memory = r.memory; pending = []; view = r.view; touched = r.touched }

plain_settles : (k : Setting) (m : List ℕ) (v : View) (r : StepResult) → k.store_buffer ≡ 0
    → goes_or_waits k m [] v r ≡ of_step r
plain_settles k m v r off =
    let core : Core = core_like v v.mode in
    let at : Option Store → PendingResult = λ w. record {
      outcome = r.outcome;
      memory = (settled m [] w (r.memory, core)).0;
      pending = (settled m [] w (r.memory, core)).1.0;
      view = r.view;
      touched = touched_now w (addresses_loaded_by k m core r.outcome) r.touched;
    } in
    ap (λ n. at (if nat_eq n 0 then None else store_outside k m core r.outcome)) off

plain_is : (event : Option Event) (k : Setting) (m : List ℕ) (v : View) → k.store_buffer ≡ 0
    → stepped_pending event k m [] v ≡ of_step (stepped_under event k m v v.mode)
plain_is None k m v off = plain_settles k m v (stepped_under None k m v v.mode) off
plain_is (Some event.Drain) k m v off = plain_settles k m v (stepped_under (Some event.Drain) k m v v.mode) off
plain_is (Some (event.Abort by)) k m v off =
    plain_settles k m v (stepped_under (Some (event.Abort by)) k m v v.mode) off

abbrev pub none_pending : ℕ → Pending
none_pending number = []

abbrev none : Pending
none = []

same_none : (t : Bool) → none ≡ cond t none none
same_none true = refl
same_none false = refl

-- a step of the parts is one with none pending
pub plain_step : (event : Option Event) (k : Setting) (m m2 : List ℕ) (views views2 : ℕ → View) (cores c : ℕ)
    (o : Outcome) → k.store_buffer ≡ 0 → IsStepUnder event k m views cores c o m2 views2
    → IsPendingStep event k m views none_pending cores c o m2 views2 none_pending
plain_step event k m m2 views views2 cores c o off is =
    let r : StepResult = stepped_under event k m (views c) (views c).mode in
    let same : of_step r ≡ stepped_pending event k m [] (views c) = sym (plain_is event k m (views c) off) in
    record {
      outcome_is = is.outcome_is ∙ ap (λ (q : PendingResult). q.outcome) same;
      new_memory = is.new_memory ∙ ap (λ (q : PendingResult). q.memory) same;
      each = λ j h. is.each j h ∙ ap (λ (q : PendingResult). views_then views c q j) same;
      left = λ j h. same_none (eqb j c) ∙ ap (λ (q : PendingResult). pending_then none_pending c q j) same;
    }

abbrev pub PlainRight : Option Event → Setting → ℕ → State → (ℕ → Option ℕ) → ℕ → Outcome → List ℕ → (ℕ → View) → Type 0
PlainRight event k cores a d c o m views = Right event k cores a d c o m views none_pending

pub plain_one_step : (event : Option Event) (k : Setting) → k.store_buffer ≡ 0 → Sound k → (cores : ℕ) (m : List ℕ)
    (views : ℕ → View) (a : State) (d : ℕ → Option ℕ) (c : ℕ) → length m ≡ k.size → c < cores
    → ViewsStandFor k cores m views none_pending a d →
    PlainRight event k cores a d c (stepped_under event k m (views c) (views c).mode).outcome
    (stepped_under event k m (views c) (views c).mode).memory
    (views_after views c (stepped_under event k m (views c) (views c).mode))
plain_one_step event k off sound cores m views a d c size below stands =
    let r : StepResult = stepped_under event k m (views c) (views c).mode in
    right_pending event k cores a d c r.outcome r.memory (views_after views c r)
    (pending_then none_pending c (of_step r)) none_pending
    (λ j h. same_none (eqb j c))
    (subst (λ (q : PendingResult).
    Right event k cores a d c q.outcome q.memory (views_then views c q) (pending_then none_pending c q))
    (plain_is event k m (views c) off)
    (one_step event k sound cores m views none_pending a d c size below stands))

-- ---- lists of steps

-- from this state and doomed cores these steps are a run with owed outcomes, to what this memory, these views and these
-- pending stores stand for
pub record Runs (k : Setting) (cores : ℕ) (a : State) (d : ℕ → Option ℕ) (steps : List (ℕ × Outcome)) (m : List ℕ)
    (views : ℕ → View) (pending : ℕ → Pending) : Type 0 where
  pub end : State
  pub is_run : run k a steps ≡ Some end
  pub owed : AreOwed k a d steps
  pub stands : ViewsStandFor k cores m views pending end (doomed_at_end k a d steps)

pub runs_none : (k : Setting) (cores : ℕ) (a : State) (d : ℕ → Option ℕ) (m : List ℕ) (views : ℕ → View)
    (p : ℕ → Pending) → ViewsStandFor k cores m views p a d → Runs k cores a d [] m views p
runs_none k cores a d m views p stands = record { end = a; is_run = refl; owed = tt; stands = stands }

-- a run goes on by one right step
pub runs_more : (event : Option Event) (k : Setting) (cores : ℕ) (a : State) (d : ℕ → Option ℕ)
    (ps : List (ℕ × Outcome)) (m : List ℕ) (views : ℕ → View) (p : ℕ → Pending) (c : ℕ) (o : Outcome) (n : List ℕ)
    (views2 : ℕ → View) (p2 : ℕ → Pending) → Runs k cores a d ps m views p →
    ((b : State) (e : ℕ → Option ℕ) → ViewsStandFor k cores m views p b e → Right event k cores b e c o n views2 p2) →
    Runs k cores a d (ps ++ (c, o) ∷ []) n views2 p2
runs_more event k cores a d [] m views p c o n views2 p2 runs right =
    let same : a ≡ runs.end = same_Some a runs.end runs.is_run in
    let now : Right event k cores a d c o n views2 p2 =
    right a d (subst (λ x. ViewsStandFor k cores m views p x d) (sym same) runs.stands) in
    record {
      end = now.next;
      is_run = ap (option_and_then (λ b. run k b [])) now.steps;
      owed = (
        owed_in_history event k a d c o now.owes,
        subst (λ s. MatchOption s ⊥ (λ b. AreOwed k b (doomed_after k a d c o) [])) (sym now.steps) tt,
      );
      stands = subst (λ s. ViewsStandFor k cores n views2 p2 now.next (elim s [
        | None ↦ d
        | Some b ↦ doomed_at_end k b (doomed_after k a d c o) []
      ])) (sym now.steps) now.stands;
    }
runs_more event k cores a d (q ∷ ps) m views p c o n views2 p2 runs right =
    let all :
    (z : State) × (run k a ((q ∷ ps) ++ (c, o) ∷ []) ≡ Some z)
    × MatchOption (step k a q.0 q.1) ⊥ (λ b. AreOwed k b (doomed_after k a d q.0 q.1) (ps ++ (c, o) ∷ []))
    × ViewsStandFor k cores n views2 p2 z (doomed_at_end k a d ((q ∷ ps) ++ (c, o) ∷ [])) =
    (elim (step k a q.0 q.1) as (λ s.
    option_and_then (λ b. run k b ps) s ≡ Some runs.end →
    MatchOption s ⊥ (λ b. AreOwed k b (doomed_after k a d q.0 q.1) ps) →
    ViewsStandFor k cores m views p runs.end
    (elim s [ None ↦ d | Some b ↦ doomed_at_end k b (doomed_after k a d q.0 q.1) ps ]) →
    (z : State) × (option_and_then (λ b. run k b (ps ++ (c, o) ∷ [])) s ≡ Some z)
    × MatchOption s ⊥ (λ b. AreOwed k b (doomed_after k a d q.0 q.1) (ps ++ (c, o) ∷ []))
    × ViewsStandFor k cores n views2 p2 z
    (elim s [ None ↦ d | Some b ↦ doomed_at_end k b (doomed_after k a d q.0 q.1) (ps ++ (c, o) ∷ []) ])) [
      | None ↦ λ _ never _. absurd never
      | Some b ↦ λ is owed stands.
          let rest : Runs k cores b (doomed_after k a d q.0 q.1) (ps ++ (c, o) ∷ []) n views2 p2 =
          runs_more event k cores b (doomed_after k a d q.0 q.1) ps m views p c o n views2 p2
          (record { end = runs.end; is_run = is; owed = owed; stands = stands }) right in
          (rest.end, rest.is_run, rest.owed, rest.stands)
    ]) runs.is_run runs.owed.1 runs.stands in
    record { end = all.0; is_run = all.1; owed = (runs.owed.0, all.2); stands = all.3 }

-- where no store may be pending

abbrev pub PlainRuns : Setting → ℕ → State → (ℕ → Option ℕ) → List (ℕ × Outcome) → List ℕ → (ℕ → View) → Type 0
PlainRuns k cores a d steps m views = Runs k cores a d steps m views none_pending

pub plain_runs_more : (event : Option Event) (k : Setting) (cores : ℕ) (a : State) (d : ℕ → Option ℕ)
    (ps : List (ℕ × Outcome)) (m : List ℕ) (views : ℕ → View) (c : ℕ) (o : Outcome) (n : List ℕ) (views2 : ℕ → View) →
    PlainRuns k cores a d ps m views →
    ((b : State) (e : ℕ → Option ℕ) → ViewsStandFor k cores m views none_pending b e
    → PlainRight event k cores b e c o n views2) →
    PlainRuns k cores a d (ps ++ (c, o) ∷ []) n views2
plain_runs_more event k cores a d ps m views c o n views2 =
    runs_more event k cores a d ps m views none_pending c o n views2 none_pending
