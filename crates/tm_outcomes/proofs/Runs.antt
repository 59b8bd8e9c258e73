-- Schedules that grow by one step.
use Rattle.std.proofs.Common.{◌≡◌, List, [], ◌∷◌, ◌++◌, Option, Some, None, sym, ap, subst}
use Rattle.std.specs.Prelude.{option_map, option_and_then}
use Rattle.tm_outcomes.proofs.Somes.{same_in}
use Rattle.tm_model.specs.Runs.{IsOwedUnder}
use Rattle.tm_model.specs.Setting.{Setting}
use Rattle.tm_model.specs.State.{State}
use Rattle.tm_model.specs.Steps.{step}
use Rattle.tm_model.specs.declared.outcome.Outcome.{Outcome}
use Rattle.tm_model.specs.declared.outcome.Pick.{Pick}
use Rattle.tm_outcomes.specs.Schedules.{Situation, after_pick, after_schedule, with_state}

-- a step that is owed under a pick's event, and allowed, is the pick's
pub owed_is_next : (setting : Setting) (now : Situation) (pick : Pick) (outcome : Outcome) (next : State) →
    IsOwedUnder pick.event setting now.state now.doomed pick.core outcome →
    step setting now.state pick.core outcome ≡ Some next →
    after_pick setting now pick ≡ Some (with_state setting now pick.core outcome next)
owed_is_next setting now pick outcome next owed is_step =
    subst (λ (o : Outcome). option_map (with_state setting now pick.core o) (step setting now.state pick.core o)
    ≡ Some (with_state setting now pick.core outcome next)) owed
    (ap (option_map (with_state setting now pick.core outcome)) is_step)

under : (o : Option Situation) (f g : Situation → Option Situation) (now next : Situation) →
    ((middle : Situation) → f middle ≡ Some now → g middle ≡ Some next) → option_and_then f o ≡ Some now
    → option_and_then g o ≡ Some next
under None f g now next goes e = cc
under (Some middle) f g now next goes e = goes middle e

pub one_more : (setting : Setting) (start : Situation) (picks : List Pick) (now next : Situation) (pick : Pick) →
    after_schedule setting start picks ≡ Some now → after_pick setting now pick ≡ Some next →
    after_schedule setting start (picks ++ pick ∷ []) ≡ Some next
one_more setting start [] now next pick e is_next =
    let same : start ≡ now = same_in e in
    subst (λ (x : Situation). option_and_then (λ after. after_schedule setting after []) (after_pick setting x pick)
    ≡ Some next) (sym same)
    (ap (option_and_then (λ after. after_schedule setting after [])) is_next)
one_more setting start (first ∷ picks) now next pick e is_next =
    under (after_pick setting start first) (λ after. after_schedule setting after picks)
    (λ after. after_schedule setting after (picks ++ pick ∷ [])) now next
    (λ middle run. one_more setting middle picks now next pick run is_next) e

-- one schedule behind another
pub run_then : (setting : Setting) (start : Situation) (picks more : List Pick) (now end : Situation) →
    after_schedule setting start picks ≡ Some now → after_schedule setting now more ≡ Some end →
    after_schedule setting start (picks ++ more) ≡ Some end
run_then setting start [] more now end e run =
    subst (λ (x : Situation). after_schedule setting x more ≡ Some end) (sym (same_in e)) run
run_then setting start (first ∷ picks) more now end e run =
    under (after_pick setting start first) (λ after. after_schedule setting after picks)
    (λ after. after_schedule setting after (picks ++ more)) now end
    (λ middle is_run. run_then setting middle picks more now end is_run run) e
