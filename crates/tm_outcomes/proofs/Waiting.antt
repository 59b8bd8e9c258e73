-- Where the next step of a core waits for room: by what the machine tells of it, and behind unseen steps.
use Rattle.std.proofs.Common.{◌≡◌, ℕ, Bool, true, false, List, [], ◌∷◌, Option, Some, refl, sym, ◌∙◌, subst}
use Rattle.std.specs.Prelude.{nat_eq}
use Rattle.std.proofs.lemmas.Bool.{eqb-true, false≢true}
use Rattle.std.proofs.lemmas.List.Elements.{All-weaker}
use Rattle.tm_core.specs.Buffering.{IsBuffering}
use Rattle.tm_core.specs.Theorem.{StandsFor, machine_setting}
use Rattle.tm_core.specs.declared.buffering.Buffering.{Buffering}
use Rattle.tm_core.specs.declared.buffering.Buffering.TheVariants as buffering
use Rattle.tm_core.specs.declared.buffering.Wait.TheVariants as wait
use Rattle.tm_model.specs.Owed.{owed_outcome}
use Rattle.tm_model.specs.Setting.{Setting}
use Rattle.tm_model.specs.State.{Core, Pending, seen_by, seen_memory}
use Rattle.tm_model.specs.Steps.{must_wait, needs_none}
use Rattle.tm_model.specs.declared.outcome.Event.{Event}
use Rattle.tm_model.specs.declared.outcome.Outcome.{Outcome}
use Rattle.tm_model.specs.declared.outcome.Pick.{Pick}
use Rattle.tm_outcomes.specs.Nodes.{IsNodeState, IsPickOf, schedule_at}
use Rattle.tm_outcomes.specs.Outcomes.{IsAllowed}
use Rattle.tm_outcomes.specs.Places.{IsAt}
use Rattle.tm_outcomes.specs.Schedules.{Situation, after_pick}
use Rattle.tm_outcomes.specs.Unseen.{IsUnseen, LeadUnseen}
use Rattle.tm_outcomes.specs.Verdicts.{HasWaited, HasWaiting, WaitsForRoom}
use Rattle.tm_outcomes.specs.declared.nodes.NodeState.{NodeState}
use Rattle.tm_outcomes.specs.declared.trial.Trial.{Trial}
use Rattle.tm_outcomes.proofs.Crossing.{IsUnseenAt, rested, rested_core, rested_doom, rested_left, unseen_at}
use Rattle.tm_outcomes.proofs.Crossing.{unseen_goes, unseen_leads}

-- ---- what the machine tells

-- a step that waits, and not until none is pending, is told as one that waits for room
pub told_for_room : (setting : Setting) (seen : List ℕ) (pending : Pending) (core : Core) (outcome : Outcome)
    (told : Buffering) → IsBuffering setting seen pending core outcome told
    → must_wait setting seen pending core outcome ≡ true → needs_none setting core outcome ≡ false
    → told ≡ buffering.Waits wait.ForRoom
told_for_room setting seen pending core outcome (buffering.Waits wait.ForRoom) is waits free = refl
told_for_room setting seen pending core outcome (buffering.Waits wait.ForNone) is waits free =
    absurd (false≢true (sym free ∙ is.needs))
told_for_room setting seen pending core outcome buffering.Pends is waits free = absurd (false≢true (sym is.0 ∙ waits))
told_for_room setting seen pending core outcome buffering.Goes is waits free = absurd (false≢true (sym is.0 ∙ waits))

-- where it does at the state of a node, some schedule leads there
pub waited_at : (trial : Trial) (at : NodeState) → IsNodeState trial at
    → ((now : Situation) → StandsFor at.place.now.machine now.state now.doomed
    → HasWaiting (machine_setting at.place.now.machine) now)
    → HasWaited trial
waited_at trial at is waits =
    let schedules : List (List Pick) = is.tree.0 in
    let here : IsAt trial at.place.now (schedule_at schedules at.index) = is.here schedules is.tree.1 in (
      schedule_at schedules at.index,
      here.now,
      record {
        allowed = All-weaker (IsPickOf trial) (λ (pick : Pick). IsAllowed trial.events pick.event)
            (λ (pick : Pick) is. is.allowed) (schedule_at schedules at.index) (is.tree.1.picks at.index is.within);
        is_run = here.is_run;
      },
      subst (λ (k : Setting). HasWaiting k here.now) here.rules (waits here.now here.stands),
    )

-- as it was taken up before, or is now
pub waited_by : (trial : Trial) (at : NodeState) → IsNodeState trial at → (before now_is : Bool)
    → (before ≡ true → HasWaited trial)
    → (now_is ≡ true → before ≡ false → (now : Situation)
    → StandsFor at.place.now.machine now.state now.doomed → HasWaiting (machine_setting at.place.now.machine) now)
    → now_is ≡ true → HasWaited trial
waited_by trial at is true now_is was here told = was refl
waited_by trial at is false now_is was here told = waited_at trial at is (here told refl)

-- ---- behind unseen steps

module _ (setting : Setting) (allowed : Option Event → Type 0) where
  -- with the same of its own, and the same memory
  same_wait : (now next : Situation) (core : ℕ) → next.state.memory ≡ now.state.memory
      → next.state.pending core ≡ now.state.pending core → next.state.cores core ≡ now.state.cores core
      → next.doomed core ≡ now.doomed core → WaitsForRoom setting now core → WaitsForRoom setting next core
  same_wait now next core memory pending cores doom waits = record {
    waits = (λ i. must_wait setting (seen_memory (memory i) (pending i)) (pending i) (cores i)
        (owed_outcome setting (seen_memory (memory i) (pending i)) (cores i) (doom i))) ∙ waits.waits;
    at_room = (λ i. needs_none setting (cores i)
        (owed_outcome setting (seen_memory (memory i) (pending i)) (cores i) (doom i))) ∙ waits.at_room;
  }

  stays : (now next : Situation) (pick : Pick) → IsUnseen setting now pick → after_pick setting now pick ≡ Some next
      → HasWaiting setting now → HasWaiting setting next
  stays now next pick unseen goes (core, below, waits) =
      let at : IsUnseenAt setting now pick.core = unseen_at setting now pick unseen in
      let own : Core = now.state.cores pick.core in
      let doom : Option ℕ = now.doomed pick.core in
      let after : Situation = rested setting now pick.core own doom at.step in
      let other : nat_eq core pick.core ≡ false =
      apart core pick.core (nat_eq core pick.core) refl
      (λ same. absurd (false≢true (sym (unseen_goes setting now pick.core own doom at.step at.is_next)
      ∙ subst (λ n. must_wait setting (seen_by now.state n) (now.state.pending n) (now.state.cores n)
      (owed_outcome setting (seen_by now.state n) (now.state.cores n) (now.doomed n)) ≡ true) same waits.waits))) in
      subst (λ (x : Situation). HasWaiting setting x) (unseen_leads setting now next pick unseen goes) (
        core,
        below,
        same_wait now after core refl (rested_left setting now pick.core own doom at.step at.is_next core other)
            (rested_core setting now pick.core own doom at.step at.is_next core other)
            (rested_doom setting now pick.core own doom at.step at.is_next core other) waits,
      )
    where
      apart : (a b : ℕ) (test : Bool) → nat_eq a b ≡ test → (a ≡ b → ⊥) → nat_eq a b ≡ false
      apart a b true e differs = absurd (differs (eqb-true a b e))
      apart a b false e differs = e

  -- one that waits stays so
  pub stays_waiting : (picks : List Pick) (now end : Situation) → LeadUnseen setting allowed now picks end
      → HasWaiting setting now → HasWaiting setting end
  stays_waiting [] now end lead waits = subst (λ (x : Situation). HasWaiting setting x) lead waits
  stays_waiting (pick ∷ picks) now end lead waits =
      stays_waiting picks lead.2.0 end lead.2.1.1 (stays now lead.2.0 pick lead.0 lead.2.1.0 waits)
