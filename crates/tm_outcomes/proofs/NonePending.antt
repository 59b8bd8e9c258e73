-- Situations in which no store is pending, as each is that a schedule of a trial leads to where none may be.
use Rattle.std.proofs.Common.{◌≡◌, ◌<◌, List, [], ◌∷◌, Option, Some, None, refl, subst}
use Rattle.std.specs.Prelude.{option_map}
use Rattle.std.proofs.lemmas.Option.{option_and_then_some}
use Rattle.tm_model.proofs.NonePending.{NonePending, none_at_first, none_behind, within}
use Rattle.tm_model.specs.Setting.{Setting}
use Rattle.tm_model.specs.State.{State}
use Rattle.tm_model.specs.Steps.{step}
use Rattle.tm_model.specs.declared.outcome.Pick.{Pick}
use Rattle.tm_outcomes.specs.Outcomes.{trial_opening, trial_setting}
use Rattle.tm_outcomes.specs.Schedules.{Situation, after_pick, after_schedule, owed_by, with_state}
use Rattle.tm_outcomes.specs.declared.trial.Trial.{Trial}
use Rattle.tm_outcomes.proofs.Somes.{same_in}

-- ---- a step

-- a core that steps is one of the situation's
pub core_within : (setting : Setting) (now next : Situation) (pick : Pick) → after_pick setting now pick ≡ Some next →
    pick.core < now.state.count
core_within setting now next pick = on (step setting now.state pick.core (owed_by setting now pick)) refl
  where
    on : (after : Option State) → step setting now.state pick.core (owed_by setting now pick) ≡ after →
        option_map (with_state setting now pick.core (owed_by setting now pick)) after ≡ Some next →
        pick.core < now.state.count
    on (Some state) is e = within setting now.state pick.core (owed_by setting now pick) state is
    on None is e = cc

none_pick : (setting : Setting) (now next : Situation) (pick : Pick) → setting.store_buffer ≡ 0 →
    NonePending now.state → after_pick setting now pick ≡ Some next → NonePending next.state
none_pick setting now next pick off none = on (step setting now.state pick.core (owed_by setting now pick)) refl
  where
    on : (after : Option State) → step setting now.state pick.core (owed_by setting now pick) ≡ after →
        option_map (with_state setting now pick.core (owed_by setting now pick)) after ≡ Some next →
        NonePending next.state
    on (Some state) is e =
        subst (λ (x : Situation). NonePending x.state) (same_in e)
        (none_behind setting now.state pick.core (owed_by setting now pick) state off none is)
    on None is e = cc

-- ---- a schedule

none_schedule : (setting : Setting) (picks : List Pick) (now end : Situation) → setting.store_buffer ≡ 0 →
    NonePending now.state → after_schedule setting now picks ≡ Some end → NonePending end.state
none_schedule setting [] now end off none e = subst (λ (x : Situation). NonePending x.state) (same_in e) none
none_schedule setting (pick ∷ picks) now end off none e =
    option_and_then_some (λ (next : Situation). after_schedule setting next picks) (after_pick setting now pick) end e
    (λ next is rest. none_schedule setting picks next end off (none_pick setting now next pick off none is) rest)

pub none_reached : (trial : Trial) (schedule : List Pick) (now : Situation) → trial.limits.stores ≡ 0 →
    after_schedule (trial_setting trial) (trial_opening trial) schedule ≡ Some now → NonePending now.state
none_reached trial schedule now off e =
    none_schedule (trial_setting trial) schedule (trial_opening trial) now off (none_at_first trial.program.now) e
