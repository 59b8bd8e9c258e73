-- Whom a step hits, whatever stores of its core are pending: what is told by what it touches is what the model tells.
use Rattle.std.proofs.Common.{◌≡◌, ℕ, ◌<◌, true, false, List, [], ◌∷◌, length, Option, Some, None, refl, sym, ap, ◌∙◌}
use Rattle.std.proofs.Common.{subst}
use Rattle.std.specs.Prelude.{if◌then◌else◌}
use Rattle.std.proofs.lemmas.Bool.{true≢false}
use Rattle.tm_model.specs.declared.explain.Hit.{Hit}
use Rattle.tm_model.specs.declared.outcome.Event.TheVariants as event
use Rattle.tm_model.specs.Access.{Lines, stored_addresses, stores_of}
use Rattle.tm_model.specs.Conflicts.{Doomed, addresses_at_once, addresses_loaded_by, addresses_written_by}
use Rattle.tm_model.specs.Explained.{IsHitOnCore, IsHitTold}
use Rattle.tm_model.specs.Owed.{owed_under}
use Rattle.tm_model.specs.Setting.{Setting}
use Rattle.tm_model.specs.Shown.{View, view_of, view_outside}
use Rattle.tm_model.specs.State.{Pending, State, seen_by}
use Rattle.tm_model.specs.Steps.{must_wait}
use Rattle.tm_core.specs.ExplainedViews.{IsTold}
use Rattle.tm_core.specs.PendingStep.{core_like, drains, settles, stepped_pending}
use Rattle.tm_core.specs.StepRefinement.{StepResult, Touched, addresses_touched, lines_hit, stepped}
use Rattle.tm_core.specs.Theorem.{no_regs}
use Rattle.tm_core.specs.Types.{Drained, Outcome, Running, Store, Write}
use Rattle.tm_core.proofs.BufferLemmas.{both_hit, hits}
use Rattle.tm_core.proofs.ExplainStates.{on_core}
use Rattle.tm_core.proofs.Sound.{Sound}
use Rattle.tm_core.proofs.StoreBufferStep.{is_like, mine, no_loads, owed_is, same_wait, store, told, told_writes}
use Rattle.tm_core.proofs.StoreBufferStep.{touch_settled, touched_is}

-- a view with these sets
abbrev with_sets : Lines → Lines → View
with_sets reads writes = record (view_outside Running no_regs) { reads = reads; writes = writes }

module _ (k : Setting) (sound : Sound k) (cores : ℕ) (a : State) (d : Doomed) (c : ℕ) (views : ℕ → View)
    (size : length a.memory ≡ k.size)
    (each : (j : ℕ) → j < cores → view_of k (seen_by a j) (a.cores j) (d j) ≡ Some (views j))
    (below : c < cores) (counted : cores ≡ a.count) (other : ℕ) (beside : other < cores) (tells : Option Hit) where
  abbrev p : Pending
  p = a.pending c

  abbrev seen : List ℕ
  seen = seen_by a c

  abbrev r : StepResult
  r = stepped k seen (views c) (views c).mode

  -- of a step with this outcome
  abbrev TellsHit : Outcome → Type 0
  TellsHit o =
      IsHitOnCore k (seen_by a other) (addresses_loaded_by k seen (a.cores c) o)
      (addresses_written_by k a.memory p (a.cores c) o) (a.cores other) (d other) tells

  -- by these loads and stores, of which others see this
  by_touched : (loads stores : List ℕ) (touched : Touched) → ((v : View) → lines_hit v.reads v.writes touched
      ≡ hits v.reads v.writes loads stores) → IsTold touched (views other) tells
      → IsHitOnCore k (seen_by a other) loads stores (a.cores other) (d other) tells
  by_touched loads stores touched same h =
      on_core k (seen_by a other) loads stores touched tells (λ reads writes. same (with_sets reads writes))
      (a.cores other) (d other) (views other) (each other beside) h

  -- the oldest store reaches memory
  by_drain : (oldest : Store) (younger : Pending) → p ≡ oldest ∷ younger
      → IsTold (addresses_touched Write (stored_addresses (stores_of (Some oldest)))) (views other) tells
      → TellsHit Drained
  by_drain oldest younger is h =
      let stores : List ℕ = stored_addresses (stores_of (Some oldest)) in
      subst (λ ls. IsHitOnCore k (seen_by a other) ls (addresses_written_by k a.memory p (a.cores c) Drained)
      (a.cores other) (d other) tells) (sym (no_loads k seen (a.cores c)))
      (subst (λ q. IsHitOnCore k (seen_by a other) [] (addresses_written_by k a.memory q (a.cores c) Drained)
      (a.cores other) (d other) tells) (sym is)
      (by_touched [] stores (addresses_touched Write stores) (λ v. both_hit v.reads v.writes [] stores) h))

  -- under an event
  pub drained_hit : (oldest : Store) (younger : Pending) → p ≡ oldest ∷ younger
      → IsTold (addresses_touched Write (stored_addresses (stores_of (Some oldest)))) (views other) tells
      → IsHitTold (Some event.Drain) k a d c other tells
  drained_hit oldest younger is h =
      subst TellsHit (ap (λ q. owed_under (Some event.Drain) k a.memory q (a.cores c) (d c)) (sym is))
      (by_drain oldest younger is h)

  drain_hits : (q : Pending) → p ≡ q → must_wait k seen p (a.cores c) r.outcome ≡ true
      → IsTold (drains a.memory q (views c)).touched (views other) tells → TellsHit Drained
  drain_hits [] is waits h =
      absurd (true≢false (sym waits ∙ ap (λ q. must_wait k seen q (a.cores c) r.outcome) is))
  drain_hits (oldest ∷ younger) is waits h = by_drain oldest younger is h

  goes_hits : IsTold (settles k a.memory p (views c) r).touched (views other) tells → TellsHit r.outcome
  goes_hits h =
      let own = mine None k sound cores a d c views size each below counted in
      let w : Option Store = store None k sound cores a d c views size each below counted in
      subst (λ ls. IsHitOnCore k (seen_by a other) ls (addresses_written_by k a.memory p (a.cores c) r.outcome)
      (a.cores other) (d other) tells) own.loaded
      (subst (λ ws. IsHitOnCore k (seen_by a other) own.loads ws (a.cores other) (d other) tells)
      (ap (addresses_at_once w) own.wrote
      ∙ sym (told_writes k a.memory p (a.cores c) r.outcome
      (told None k sound cores a d c views size each below counted)))
      (by_touched own.loads (addresses_at_once w (stored_addresses own.stores)) _
      (touch_settled w own.stores own.loads r.touched own.touch)
      (subst (λ touched. IsTold touched (views other) tells)
      (touched_is None k sound cores a d c views size each below counted) h)))

  pub pending_hit : IsTold (stepped_pending None k a.memory p (views c)).touched (views other) tells
      → IsHitTold None k a d c other tells
  pending_hit h =
      let waits = must_wait k seen p (a.cores c) r.outcome in
      let own = owed_is None k sound cores a d c views size each below counted tt in
      let same : must_wait k seen p (core_like (views c) (views c).mode) r.outcome ≡ waits =
      same_wait k seen p (a.cores c) (core_like (views c) (views c).mode) r.outcome
      (is_like k seen (a.cores c) (d c) (views c) (each c below)) in
      subst TellsHit (sym own)
      ((elim waits as (λ t. waits ≡ t
      → IsTold (if t then drains a.memory p (views c) else settles k a.memory p (views c) r).touched (views other) tells
      → TellsHit (if t then Drained else r.outcome)) [
        | true ↦ λ is told. drain_hits p refl is told
        | false ↦ λ is told. goes_hits told
      ]) refl
      (subst (λ t. IsTold (if t then drains a.memory p (views c) else settles k a.memory p (views c) r).touched
      (views other) tells) same h))
