-- What the machine tells ahead of a core outside of transactions decides whether its next step touches memory.
use Rattle.std.proofs.Common.{◌≡◌, ℕ, Bool, true, false, ◌<◌, List, [], Option, Some, None, length, refl, sym, ap, ◌∙◌}
use Rattle.std.proofs.Common.{subst, arith}
use Rattle.std.specs.Prelude.{◌&&◌, IsSome, not}
use Rattle.std.proofs.lemmas.Bool.{false≢true}
use Rattle.ia_regs.specs.declared.Regs.{Regs}
use Rattle.tm_core.specs.Buffering.{IsBuffering, TellsAhead}
use Rattle.tm_core.specs.Theorem.{StandsFor, view_at}
use Rattle.tm_core.specs.declared.buffering.Buffering.{Buffering}
use Rattle.tm_model.specs.Conflicts.{addresses_at_once, addresses_written_by}
use Rattle.tm_model.specs.Explained.{addresses_stored_at}
use Rattle.tm_model.specs.Owed.{owed_outcome, owed_outside}
use Rattle.tm_model.specs.Setting.{Setting, outside_at}
use Rattle.tm_model.specs.State.{Closed, Core, Pending, seen_by, seen_memory}
use Rattle.tm_model.specs.Steps.{must_wait, store_buffered}
use Rattle.tm_model.specs.Types.{Store}
use Rattle.tm_model.specs.declared.outcome.Outcome.{Outcome}
use Rattle.tm_rule.specs.declared.kinds.OutsideResult.{OutsideResult}
use Rattle.tm_rule.specs.declared.kinds.OutsideResult.TheVariants.{Goes, Begins, Stops}
use Rattle.tm_outcomes.specs.Outcomes.{trial_setting}
use Rattle.tm_outcomes.specs.Places.{IsPlaceOf}
use Rattle.tm_outcomes.specs.Resting.{is_running}
use Rattle.tm_outcomes.specs.Schedules.{Situation}
use Rattle.tm_outcomes.specs.Unseen.{are_none, touches_nothing}
use Rattle.tm_outcomes.specs.declared.place.Place.{Place}
use Rattle.tm_outcomes.specs.declared.trial.Trial.{Trial}
use Rattle.tm_outcomes.proofs.Leads.{shows}
use Rattle.tm_outcomes.proofs.Resting.{closed_shown}

-- the outcome of the instruction at these registers, with these stores pending
abbrev pub owed_closed : Setting → List ℕ → Pending → Regs → Outcome
owed_closed setting memory pending regs = owed_outcome setting (seen_memory memory pending) (Closed regs) None

-- the outcome is no drain, so that a step writes what it stores, but for what is pending behind it
writes_by : (setting : Setting) (memory : List ℕ) (pending : Pending) (regs : Regs) (two : Bool)
    (result : OutsideResult) →
    addresses_written_by setting memory pending (Closed regs) (owed_outside two result)
    ≡ addresses_at_once
    (store_buffered setting (seen_memory memory pending) (Closed regs) (owed_outside two result))
    (addresses_stored_at setting (seen_memory memory pending) (Closed regs) (owed_outside two result))
writes_by setting memory pending regs two (Stops stop) = refl
writes_by setting memory pending regs two (Begins next) = refl
writes_by setting memory pending regs true (Goes next store) = refl
writes_by setting memory pending regs false (Goes next store) = refl

some_pends : (store : Option Store) (addresses : List ℕ) → IsSome store → addresses_at_once store addresses ≡ []
some_pends (Some store) addresses some = refl
some_pends None addresses some = absurd (false≢true some)

module _ (setting : Setting) (memory : List ℕ) (pending : Pending) (regs : Regs) where
  abbrev seen : List ℕ
  seen = seen_memory memory pending

  abbrev owed : Outcome
  owed = owed_closed setting memory pending regs

  writes_at : addresses_written_by setting memory pending (Closed regs) owed
      ≡ addresses_at_once (store_buffered setting seen (Closed regs) owed)
      (addresses_stored_at setting seen (Closed regs) owed)
  writes_at =
      writes_by setting memory pending regs (setting.takes_two_steps regs) (outside_at setting regs seen)

  touches_by : (loads waits : Bool) → are_none (setting.load_of regs) ≡ loads
      → must_wait setting seen pending (Closed regs) owed ≡ waits → touches_nothing setting memory pending regs
      ≡ (loads && (not waits && are_none (addresses_written_by setting memory pending (Closed regs) owed)))
  touches_by loads waits is waiting =
      ap (λ t. t && (not (must_wait setting seen pending (Closed regs) owed)
      && are_none (addresses_written_by setting memory pending (Closed regs) owed))) is
      ∙ ap (λ t. loads && (not t && are_none (addresses_written_by setting memory pending (Closed regs) owed))) waiting

  pub loads_touches : are_none (setting.load_of regs) ≡ false → false ≡ touches_nothing setting memory pending regs
  loads_touches is = sym (touches_by false (must_wait setting seen pending (Closed regs) owed) is refl)

  pub waits_touches : are_none (setting.load_of regs) ≡ true
      → must_wait setting seen pending (Closed regs) owed ≡ true
      → false ≡ touches_nothing setting memory pending regs
  waits_touches is waiting = sym (touches_by true true is waiting)

  pub pends_touches : are_none (setting.load_of regs) ≡ true
      → must_wait setting seen pending (Closed regs) owed ≡ false
      → IsSome (store_buffered setting seen (Closed regs) owed) → true ≡ touches_nothing setting memory pending regs
  pends_touches is waiting some =
      sym (touches_by true false is waiting
      ∙ ap are_none
      (writes_at
      ∙ some_pends (store_buffered setting seen (Closed regs) owed)
      (addresses_stored_at setting seen (Closed regs) owed) some))

  pub goes_touches : are_none (setting.load_of regs) ≡ true
      → must_wait setting seen pending (Closed regs) owed ≡ false
      → store_buffered setting seen (Closed regs) owed ≡ None →
      are_none (addresses_stored_at setting seen (Closed regs) owed) ≡ touches_nothing setting memory pending regs
  goes_touches is waiting none =
      sym (touches_by true false is waiting
      ∙ ap are_none
      (writes_at
      ∙ ap (λ (w : Option Store). addresses_at_once w (addresses_stored_at setting seen (Closed regs) owed)) none))

-- what is told ahead, of a core that runs
pub told_ahead : (trial : Trial) (place : Place) (core : ℕ) (told : Buffering) → IsPlaceOf trial place →
    core < length trial.program.now.entries → is_running (view_at place.machine core).mode ≡ true →
    TellsAhead place.machine core told →
    (now : Situation) → StandsFor place.machine now.state now.doomed →
    IsBuffering (trial_setting trial) (seen_by now.state core) (now.state.pending core)
    (Closed (view_at place.machine core).base)
    (owed_closed (trial_setting trial) now.state.memory (now.state.pending core) (view_at place.machine core).base) told
told_ahead trial place core told is is_core running tells now stands =
    let setting : Setting = trial_setting trial in
    let seen : List ℕ = seen_by now.state core in
    let left : Pending = now.state.pending core in
    let closed = closed_shown setting seen (now.state.cores core) (now.doomed core) (view_at place.machine core)
    (shows place.machine setting now is.rules stands core (let count = is.count in omega arith)) running in
    subst (λ (d : Option ℕ). IsBuffering setting seen left (Closed (view_at place.machine core).base)
    (owed_outcome setting seen (Closed (view_at place.machine core).base) d) told) closed.1
    (subst (λ (x : Core). IsBuffering setting seen left x (owed_outcome setting seen x (now.doomed core)) told) closed.0
    (subst (λ (s : Setting). IsBuffering s seen left (now.state.cores core)
    (owed_outcome s seen (now.state.cores core) (now.doomed core)) told) is.rules (tells now.state now.doomed stands)))
