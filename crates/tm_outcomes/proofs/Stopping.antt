-- Stops that are told.
use Rattle.std.proofs.Common.{◌≡◌, ℕ, ◌<◌, List, ◌++◌, length, get_or, sym, ◌∙◌, subst, arith, length-append}
use Rattle.std.proofs.lemmas.List.{get_or_append_left, get_or_default}
use Rattle.tm_model.specs.State.{State}
use Rattle.tm_rule.specs.declared.kinds.Stop.{Stop}
use Rattle.tm_outcomes.specs.Verdicts.{IsStopTold, StopsBy}
use Rattle.tm_outcomes.specs.declared.stops.ReachedStop.{ReachedStop}

-- with more they are told still
pub told_more : (stops more : List ReachedStop) (why : Stop) → IsStopTold stops why → IsStopTold (stops ++ more) why
told_more stops more why told = (
  told.0,
  told.1,
  (let below = told.2 in let long = length-append stops more in omega arith),
  get_or_append_left stops more told.1 told.0 told.2 ∙ told.3,
  told.4,
)

-- the last of those that are looked for
pub told_at : (stops : List Stop) (told : List ReachedStop) (state : State) (index at : ℕ) (d why : Stop) → index ≡ at
    → at < length stops →
    get_or stops index why ≡ why → StopsBy state why
    → (StopsBy state (get_or stops at d) → IsStopTold told (get_or stops at d)) →
    IsStopTold told why
told_at stops told state index at d why last below is stopped found =
    let same : get_or stops at d ≡ why =
    get_or_default stops at d why below ∙ subst (λ n. get_or stops n why ≡ why) last is in
    subst (λ (w : Stop). IsStopTold told w) same (found (subst (λ (w : Stop). StopsBy state w) (sym same) stopped))
