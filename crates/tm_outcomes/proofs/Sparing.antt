-- Schedules without an event that is not needed.
use Rattle.std.proofs.Common.{◌≡◌, ◌⊎◌, inl, inr, List, [], ◌∷◌, ◌++◌, Option, Some, refl, sym, ap, ◌∙◌, subst}
use Rattle.std.specs.Prelude.{option_and_then}
use Rattle.std.proofs.lemmas.List.Elements.{All-head, All-tail}
use Rattle.tm_model.specs.declared.outcome.Event.{Event}
use Rattle.tm_model.specs.declared.outcome.Pick.{Pick}
use Rattle.tm_outcomes.specs.Nodes.{IsNeededBehind}
use Rattle.tm_outcomes.specs.Outcomes.{AreUsual, Befalls, IsAllowed, IsSparing, SparesEvents, trial_opening}
use Rattle.tm_outcomes.specs.Outcomes.{trial_setting, usual_event}
use Rattle.tm_outcomes.specs.Places.{IsAt}
use Rattle.tm_outcomes.specs.Resting.{Advances}
use Rattle.tm_outcomes.specs.Schedules.{Situation, after_schedule}
use Rattle.tm_outcomes.specs.declared.place.Place.{Place}
use Rattle.tm_outcomes.specs.declared.trial.Events.{Events}
use Rattle.tm_outcomes.specs.declared.trial.Events.TheVariants.{Never, May, Always}
use Rattle.tm_outcomes.specs.declared.trial.Trial.{Trial}
use Rattle.tm_outcomes.proofs.Somes.{same_in}

-- what is usual is allowed
usual_allowed : (events : Events) → IsAllowed events (usual_event events)
usual_allowed Never = refl
usual_allowed (May events) = tt
usual_allowed (Always always) = refl

pub is_allowed : (events : Events) (event : Option Event) → event ≡ usual_event events → IsAllowed events event
is_allowed events event is = subst (λ (e : Option Event). IsAllowed events e) (sym is) (usual_allowed events)

abbrev pub IsUsualIn : Trial → Pick → Type 0
IsUsualIn trial pick = pick.event ≡ usual_event trial.events

usual_spare : (trial : Trial) (picks : List Pick) (now : Situation) → AreUsual trial picks
    → SparesEvents trial now picks
usual_spare trial [] now all = tt
usual_spare trial (pick ∷ picks) now all = (
  inl (All-head (IsUsualIn trial) pick picks all),
  λ next is_next. usual_spare trial picks next (All-tail (IsUsualIn trial) pick picks all),
)

-- the ones, and from where they lead the others
spare_then : (trial : Trial) (picks more : List Pick) (start now : Situation) → SparesEvents trial start picks →
    after_schedule (trial_setting trial) start picks ≡ Some now → SparesEvents trial now more
    → SparesEvents trial start (picks ++ more)
spare_then trial [] more start now spares run other =
    subst (λ (x : Situation). SparesEvents trial x more) (sym (same_in run)) other
spare_then trial (pick ∷ picks) more start now spares run other = (
  spares.0,
  λ next is_next.
      spare_then trial picks more next now (spares.1 next is_next)
      (sym (ap (option_and_then (λ (x : Situation). after_schedule (trial_setting trial) x picks)) is_next) ∙ run)
      other,
)

-- a pick that is needed, and the unseen steps behind it
pub sparing_advanced : (trial : Trial) (schedule : List Pick) (before after : Place) (pick : Pick) (steps : List Pick) →
    IsAt trial before schedule → Advances trial before after pick steps → IsSparing trial schedule →
    IsNeededBehind trial schedule pick → IsSparing trial (schedule ++ steps)
sparing_advanced trial schedule before after pick steps at advances sparing needed =
    let now = at.now in
    let first : (pick.event ≡ usual_event trial.events)
    ⊎ Befalls pick.event (now.state.pending pick.core) (now.state.cores pick.core) (now.doomed pick.core) =
    elim needed [
      | inl usual ↦ inl usual
      | inr behind ↦ inr (behind now at.is_run)
    ] in
    spare_then trial schedule steps (trial_opening trial) now sparing at.is_run
    (subst (λ (s : List Pick). SparesEvents trial now s) (sym advances.made)
    (first, λ next is_next. usual_spare trial advances.rest next advances.usual))
