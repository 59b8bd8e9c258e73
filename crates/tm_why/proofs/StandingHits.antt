-- A hit stands on a core exactly while the core is doomed.
use Rattle.std.proofs.Common.{◌≡◌, ◌⊎◌, inl, inr, ℕ, suc, ◌<◌, Bool, true, false, eqb, if◌then◌else◌, List, [], ◌∷◌}
use Rattle.std.proofs.Common.{length, Option, Some, None, refl, sym, ap, ◌∙◌, subst, arith}
use Rattle.std.specs.Prelude.{IsSome, MatchOption}
use Rattle.std.specs.Option.{is_some, option_or}
use Rattle.std.proofs.lemmas.Bool.{eqb-true, eq-eqb, true≢false}
use Rattle.tm_model.specs.Conflicts.{Doomed, addresses_loaded_by, addresses_written_by, doom_after_other}
use Rattle.tm_model.specs.Conflicts.{doom_after_own, doomed_after}
use Rattle.tm_model.specs.Explained.{owed_now}
use Rattle.tm_model.specs.Owed.{owed_outcome, owed_under, owed_with_pending}
use Rattle.tm_model.specs.Runs.{event_told, is_aborted_by}
use Rattle.tm_model.specs.Setting.{Setting}
use Rattle.tm_model.specs.State.{Closed, Core, Halted, Midway, Opened, Pending, State, seen_by, seen_memory}
use Rattle.tm_model.specs.Steps.{must_wait}
use Rattle.tm_model.specs.declared.outcome.Event.{Event}
use Rattle.tm_model.specs.declared.outcome.Event.TheVariants as event
use Rattle.tm_model.specs.declared.outcome.Event.TheVariants.{Drain}
use Rattle.tm_model.specs.declared.outcome.Interference.{Interference}
use Rattle.tm_model.specs.declared.outcome.Outcome.{Outcome}
use Rattle.tm_model.specs.declared.outcome.Outcome.TheVariants.{Aborted, AbortedBy, Begun, Committed, Idle, Inside}
use Rattle.tm_model.specs.declared.outcome.Outcome.TheVariants.{Drained, Loaded, Plain, Stopped}
use Rattle.tm_model.specs.declared.explain.Hit.{Hit}
use Rattle.tm_core.proofs.ExplainLaws.{condemn}
use Rattle.tm_model.proofs.Events.{abort_hits_nobody, aborted_by_none, no_event_told}
use Rattle.tm_why.specs.Standing.{AreHitsTold, AreStanding, HitsStand}
use Rattle.tm_why.specs.Types.{Asked, MadeStore, StandingHit}
use Rattle.tm_why.specs.Watched.{Told, drain_hit_on, drained_store, eip_by, hit_in, hit_made, hit_on, is_drain}
use Rattle.tm_why.specs.Watched.{left_by, queue_in, standing, step_of}

-- ---- the core's own step

not_doomed : (outcome : Outcome) (hit : Option StandingHit) → false ≡ is_some hit →
    is_some (doom_after_own outcome None) ≡ is_some (left_by outcome hit)
not_doomed Plain hit e = e
not_doomed Loaded hit e = e
not_doomed (Stopped why) hit e = e
not_doomed Idle hit e = e
not_doomed Begun hit e = refl
not_doomed Inside hit e = e
not_doomed Committed hit e = refl
not_doomed (Aborted status) hit e = refl
not_doomed (AbortedBy interference status) hit e = refl
not_doomed Drained hit e = e

own_owed : (setting : Setting) (memory : List ℕ) (core : Core) (doom : Option ℕ) (hit : Option StandingHit) →
    is_some doom ≡ is_some hit →
    is_some (doom_after_own (owed_outcome setting memory core doom) doom)
    ≡ is_some (left_by (owed_outcome setting memory core doom) hit)
own_owed setting memory (Halted regs stop) doom hit e = e
own_owed setting memory (Closed regs) (Some depth) hit e = refl
own_owed setting memory (Midway regs value) (Some depth) hit e = refl
own_owed setting memory (Opened regs steps) (Some depth) hit e = refl
own_owed setting memory (Closed regs) None hit e = not_doomed (owed_outcome setting memory (Closed regs) None) hit e
own_owed setting memory (Midway regs value) None hit e =
    not_doomed (owed_outcome setting memory (Midway regs value) None) hit e
own_owed setting memory (Opened regs steps) None hit e =
    not_doomed (owed_outcome setting memory (Opened regs steps) None) hit e

-- a drain in the place of the step leaves both
own_waits : (waits : Bool) (outcome : Outcome) (doom : Option ℕ) (hit : Option StandingHit) →
    is_some doom ≡ is_some hit → is_some (doom_after_own outcome doom) ≡ is_some (left_by outcome hit) →
    is_some (doom_after_own (if waits then Drained else outcome) doom)
    ≡ is_some (left_by (if waits then Drained else outcome) hit)
own_waits true outcome doom hit e owed = e
own_waits false outcome doom hit e owed = owed

own_pending : (setting : Setting) (memory : List ℕ) (pending : Pending) (core : Core) (doom : Option ℕ)
    (hit : Option StandingHit) → is_some doom ≡ is_some hit →
    is_some (doom_after_own (owed_with_pending setting memory pending core doom) doom)
    ≡ is_some (left_by (owed_with_pending setting memory pending core doom) hit)
own_pending setting memory pending core doom hit e =
    let seen : List ℕ = seen_memory memory pending in
    let outcome : Outcome = owed_outcome setting seen core doom in
    own_waits (must_wait setting seen pending core outcome) outcome doom hit e
    (own_owed setting seen core doom hit e)

-- under an event, the abort by it, or a drain, or else what is owed without
own : (event : Option Event) (setting : Setting) (memory : List ℕ) (pending : Pending) (core : Core)
    (doom : Option ℕ) (hit : Option StandingHit) → is_some doom ≡ is_some hit →
    is_some (doom_after_own (owed_under event setting memory pending core doom) doom)
    ≡ is_some (left_by (owed_under event setting memory pending core doom) hit)
own None setting memory pending core doom hit e = own_pending setting memory pending core doom hit e
own (Some event.Drain) setting memory [] core doom hit e = own_pending setting memory [] core doom hit e
own (Some event.Drain) setting memory (oldest ∷ younger) core doom hit e = e
own (Some (event.Abort by)) setting memory pending (Opened regs steps) None hit e = refl
own (Some (event.Abort by)) setting memory pending (Opened regs steps) (Some depth) hit e =
    own_pending setting memory pending (Opened regs steps) (Some depth) hit e
own (Some (event.Abort by)) setting memory pending (Halted regs stop) doom hit e =
    own_pending setting memory pending (Halted regs stop) doom hit e
own (Some (event.Abort by)) setting memory pending (Closed regs) doom hit e =
    own_pending setting memory pending (Closed regs) doom hit e
own (Some (event.Abort by)) setting memory pending (Midway regs value) doom hit e =
    own_pending setting memory pending (Midway regs value) doom hit e

-- ---- another core's step

or_none : (hit : Option StandingHit) → is_some (option_or hit None) ≡ is_some hit
or_none None = refl
or_none (Some hit) = refl

or_some : (hit : Option StandingHit) (more : StandingHit) → is_some (option_or hit (Some more)) ≡ true
or_some None more = refl
or_some (Some hit) more = refl

-- what a step that is told so makes of another core's doom
abbrev IsTold : Option ℕ → Option ℕ → Option Hit → Type 0
IsTold before after told = MatchOption told (after ≡ before) (λ (h : Hit). (before ≡ None) × IsSome after)

told_other : (number : ℕ) (step : Told) (by : Option MadeStore) (told : Option Hit) (before after : Option ℕ)
    (hit : Option StandingHit) → IsTold before after told → is_some before ≡ is_some hit →
    is_some after ≡ is_some (option_or hit (standing number step by told))
told_other number step by None before after hit m e = ap is_some m ∙ e ∙ sym (or_none hit)
told_other number step by (Some h) before after hit m e =
    m.1 ∙ sym (or_some hit (record {
      step = number;
      core = step.0.core;
      eip = eip_by step.0 by;
      is_drain = is_drain step.1;
      stored = step_of by;
      hit = h;
    }))

-- ---- what is owed under an event: an abort by it, or a drain, or the step that is made without, and no drain

abbrev IsStep : Outcome → Outcome → Type 0
IsStep owed alone = (owed ≡ alone) × ((is_aborted_by owed ≡ false) × (is_drain owed ≡ false))

abbrev Befalls : Outcome → Pending → Outcome → Type 0
Befalls owed pending alone =
    ((by : Interference) × ((status : ℕ) × (owed ≡ AbortedBy by status)))
    ⊎ (((owed ≡ Drained) × (0 < length pending)) ⊎ IsStep owed alone)

no_drain : (outcome : Outcome) → event_told outcome ≡ None → is_drain outcome ≡ false
no_drain Drained tells = cc
no_drain (AbortedBy by status) tells = refl
no_drain (Aborted status) tells = refl
no_drain Plain tells = refl
no_drain Loaded tells = refl
no_drain (Stopped stop) tells = refl
no_drain Idle tells = refl
no_drain Begun tells = refl
no_drain Inside tells = refl
no_drain Committed tells = refl

waits_some : (setting : Setting) (memory : List ℕ) (pending : Pending) (core : Core) (outcome : Outcome) →
    must_wait setting memory pending core outcome ≡ true → 0 < length pending
waits_some setting memory [] core outcome waits = cc
waits_some setting memory (oldest ∷ younger) core outcome waits = omega arith

waits_or : (pending : Pending) (outcome : Outcome) (waits : Bool) → (waits ≡ true → 0 < length pending) →
    event_told outcome ≡ None →
    Befalls (if waits then Drained else outcome) pending (if waits then Drained else outcome)
waits_or pending outcome true some tells = inr (inl (refl, some refl))
waits_or pending outcome false some tells =
    inr (inr (refl, (aborted_by_none outcome tells, no_drain outcome tells)))

alone : (setting : Setting) (memory : List ℕ) (pending : Pending) (core : Core) (doom : Option ℕ) →
    Befalls (owed_with_pending setting memory pending core doom) pending
    (owed_with_pending setting memory pending core doom)
alone setting memory pending core doom =
    let seen : List ℕ = seen_memory memory pending in
    let outcome : Outcome = owed_outcome setting seen core doom in
    waits_or pending outcome (must_wait setting seen pending core outcome)
    (waits_some setting seen pending core outcome) (no_event_told setting seen core doom)

befalls : (event : Option Event) (setting : Setting) (memory : List ℕ) (pending : Pending) (core : Core)
    (doom : Option ℕ) → Befalls (owed_under event setting memory pending core doom) pending
    (owed_under None setting memory pending core doom)
befalls None setting memory pending core doom = alone setting memory pending core doom
befalls (Some event.Drain) setting memory [] core doom = alone setting memory [] core doom
befalls (Some event.Drain) setting memory (oldest ∷ younger) core doom = inr (inl (refl, omega arith))
befalls (Some (event.Abort by)) setting memory pending (Opened regs steps) None = inl (by, (_, refl))
befalls (Some (event.Abort by)) setting memory pending (Opened regs steps) (Some depth) =
    alone setting memory pending (Opened regs steps) (Some depth)
befalls (Some (event.Abort by)) setting memory pending (Halted regs stop) doom =
    alone setting memory pending (Halted regs stop) doom
befalls (Some (event.Abort by)) setting memory pending (Closed regs) doom =
    alone setting memory pending (Closed regs) doom
befalls (Some (event.Abort by)) setting memory pending (Midway regs value) doom =
    alone setting memory pending (Midway regs value) doom

-- with a store pending, a drain is what is owed under one
drain_owed : (setting : Setting) (memory : List ℕ) (pending : Pending) (core : Core) (doom : Option ℕ) →
    0 < length pending → owed_under (Some event.Drain) setting memory pending core doom ≡ Drained
drain_owed setting memory [] core doom some = absurd (omega (arith, some))
drain_owed setting memory (oldest ∷ younger) core doom some = refl

-- ---- each step

module _ (most : ℕ) (event : Option Event) (setting : Setting) (state : State) (doomed : Doomed) (asked : Asked)
    (earlier : List Told) where
  abbrev outcome : Outcome
  outcome = owed_now event setting state doomed asked.core

  abbrev doom_own : Option ℕ
  doom_own = doom_after_own outcome (doomed asked.core)

  abbrev doom_other : ℕ → Option ℕ
  doom_other other =
      doom_after_other setting (seen_by state other)
      (addresses_loaded_by setting (seen_by state asked.core) (state.cores asked.core) outcome)
      (addresses_written_by setting state.memory (state.pending asked.core) (state.cores asked.core) outcome)
      (state.cores other) (doomed other)

  abbrev hit_own : ℕ → Option StandingHit
  hit_own core = left_by outcome (hit_in most core earlier)

  abbrev stored : Option MadeStore
  stored = drained_store (asked, outcome) (queue_in most asked.core earlier)

  abbrev hit_other : ℕ → Option StandingHit
  hit_other core =
      option_or (hit_in most core earlier)
      (standing (suc (length earlier)) (asked, outcome) stored (hit_made (asked, outcome) core))

  abbrev IsToldBy : ℕ → Outcome → Type 0
  IsToldBy core made =
      IsTold (doomed core) (doomed_after setting state doomed asked.core made core) (hit_made (asked, made) core)

  -- of a drain, what was asked of it
  by_drain : (core : ℕ) (made : Outcome) → made ≡ Drained →
      IsTold (doomed core) (doomed_after setting state doomed asked.core made core) (drain_hit_on asked core) →
      IsToldBy core made
  by_drain core made is told =
      subst (IsTold (doomed core) (doomed_after setting state doomed asked.core made core))
      (sym (ap (λ o. hit_made (asked, o) core) is)) told

  -- a drain hits as it was asked, and so does the core's own step; an abort from outside hits nobody
  is_told : (core : ℕ) → eqb core asked.core ≡ false → AreHitsTold setting state doomed asked core →
      IsToldBy core outcome
  is_told core apart told =
      let stepping : Core = state.cores asked.core in
      let pending : Pending = state.pending asked.core in
      let doom : Option ℕ = doomed asked.core in
      elim (befalls event setting state.memory pending stepping doom) [
        | inl aborted ↦
            subst (IsToldBy core) (sym aborted.1.1)
            (abort_hits_nobody setting state doomed asked.core aborted.0 aborted.1.0 core apart)
        | inr made ↦ elim made [
          | inl drained ↦
              subst (IsToldBy core)
              (drain_owed setting state.memory pending stepping doom drained.1 ∙ sym drained.0)
              (by_drain core (owed_now (Some Drain) setting state doomed asked.core)
              (drain_owed setting state.memory pending stepping doom drained.1)
              (condemn (Some Drain) setting state doomed asked.core core (drain_hit_on asked core) apart
              (told.drain drained.1)))
          | inr step ↦
              let owed : Outcome = owed_now None setting state doomed asked.core in
              let same : hit_on asked core ≡ hit_made (asked, outcome) core =
              sym
              (ap (λ aborted. if aborted then None
              else if is_drain outcome then drain_hit_on asked core else hit_on asked core) step.1.0
              ∙ ap (λ drains. if drains then drain_hit_on asked core else hit_on asked core) step.1.1) in
              subst (IsTold (doomed core) (doomed_after setting state doomed asked.core outcome core)) same
              (subst (λ (o : Outcome). IsTold (doomed core) (doomed_after setting state doomed asked.core o core)
              (hit_on asked core)) (sym step.0)
              (condemn None setting state doomed asked.core core (hit_on asked core) apart told.step))
        ]
      ]

  by_core : (core : ℕ) (same : Bool) → eqb core asked.core ≡ same →
      ((other : ℕ) → (other ≡ asked.core → ⊥) → AreHitsTold setting state doomed asked other) →
      AreStanding most doomed earlier →
      is_some (if same then doom_own else doom_other core) ≡ is_some (if same then hit_own core else hit_other core)
  by_core core true e told stands =
      own event setting state.memory (state.pending asked.core) (state.cores asked.core) (doomed asked.core)
      (hit_in most core earlier)
      (sym (ap (λ c. is_some (doomed c)) (eqb-true core asked.core e)) ∙ stands core)
  by_core core false e told stands =
      let differs : core ≡ asked.core → ⊥ = λ same. true≢false (sym (eq-eqb core asked.core same) ∙ e) in
      let P : Bool → Type 0 =
      λ b. IsTold (doomed core) (if b then doom_own else doom_other core) (hit_made (asked, outcome) core) in
      told_other (suc (length earlier)) (asked, outcome) stored (hit_made (asked, outcome) core) (doomed core)
      (doom_other core) (hit_in most core earlier) (subst P e (is_told core e (told core differs))) (stands core)

pub hits_stand : HitsStand
hits_stand most event setting state doomed asked earlier told stands core =
    by_core most event setting state doomed asked earlier core (eqb core asked.core) refl told stands
