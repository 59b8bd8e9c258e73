-- Steps that no other core sees, as they are made at a place.
use Rattle.std.specs.Prelude.{◌≡◌, Bool, true, false, List, ◌∷◌, ◌++◌, All, Some}
use Rattle.tm_core.specs.Theorem.{StandsFor}
use Rattle.tm_model.specs.declared.outcome.CoreState.{CoreState}
use Rattle.tm_model.specs.declared.outcome.CoreState.TheVariants.{Running, Mid, Open, Condemned, Stopped as AtStop}
use Rattle.tm_model.specs.declared.outcome.Pick.{Pick}
use Rattle.tm_outcomes.specs.Nodes.{IsPickOf, RestsAt}
use Rattle.tm_outcomes.specs.Outcomes.{AreUsual, trial_setting}
use Rattle.tm_outcomes.specs.Places.{IsAt, IsPlaceOf}
use Rattle.tm_outcomes.specs.Schedules.{Situation, after_pick}
use Rattle.tm_outcomes.specs.declared.place.Place.{Place}
use Rattle.tm_outcomes.specs.declared.trial.Trial.{Trial}

abbrev pub is_running : CoreState → Bool
is_running Running = true
is_running Mid = false
is_running (Open depth) = false
is_running (Condemned depth) = false
is_running (AtStop stop) = false

abbrev pub is_condemned : CoreState → Bool
is_condemned (Condemned depth) = true
is_condemned Running = false
is_condemned Mid = false
is_condemned (Open depth) = false
is_condemned (AtStop stop) = false

-- after these steps, the machine stands for what they lead to
pub record StandsRested (trial : Trial) (after : Place) (picks : List Pick) (now : Situation) : Type 0 where
  pub end : Situation
  pub rests : RestsAt trial now picks end
  pub stands : StandsFor after.machine end.state end.doomed

-- these steps, each of them unseen, lead from one place to the other
pub record Rests (trial : Trial) (before after : Place) (picks : List Pick) : Type 0 where
  pub are_picks : All (IsPickOf trial) picks
  pub usual : AreUsual trial picks
  pub at : (schedule : List Pick) → IsAt trial before schedule → IsAt trial after (schedule ++ picks)
  pub leads : (now : Situation) → StandsFor before.machine now.state now.doomed → StandsRested trial after picks now

-- the same of those by which one list of steps is longer than the other
pub record RestsBy (trial : Trial) (before after : Place) (steps more : List Pick) : Type 0 where
  pub picks : List Pick
  pub made : more ≡ steps ++ picks
  pub rests : Rests trial before after picks

-- a pick and unseen steps behind it
pub record StandsAdvanced (trial : Trial) (after : Place) (pick : Pick) (rest : List Pick) (now : Situation)
    : Type 0 where
  pub next : Situation
  pub is_next : after_pick (trial_setting trial) now pick ≡ Some next
  pub end : Situation
  pub rests : RestsAt trial next rest end
  pub stands : StandsFor after.machine end.state end.doomed

-- these steps lead from one place to the other: a pick, and unseen ones behind it
pub record Advances (trial : Trial) (before after : Place) (pick : Pick) (steps : List Pick) : Type 0 where
  pub rest : List Pick
  pub made : steps ≡ pick ∷ rest
  pub are_picks : All (IsPickOf trial) steps
  pub usual : AreUsual trial rest
  pub is_place : IsPlaceOf trial after
  pub at : (schedule : List Pick) → IsAt trial before schedule → IsAt trial after (schedule ++ steps)
  pub goes : (now : Situation) → StandsFor before.machine now.state now.doomed →
      StandsAdvanced trial after pick rest now
