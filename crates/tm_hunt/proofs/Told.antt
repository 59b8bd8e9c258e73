-- The events that a run tells of are of the picker's kinds, or drains for which steps wait.
use Rattle.std.proofs.Common.{◌≡◌, inl, inr, sym, subst, ap, ◌∙◌, ℕ, zero, suc, List, [], ◌∷◌, ◌++◌, Option, Some}
use Rattle.std.proofs.Common.{None, refl}
use Rattle.std.proofs.lemmas.List.{map-append}
use Rattle.std.proofs.lemmas.List.Elements.{All-nil, All-push}
use Rattle.tm_hist.specs.Board.{IsHistory, SameBoard, ShownBoard as Board, TellsOf, board_setting}
use Rattle.tm_model.specs.declared.outcome.Event.{Event}
use Rattle.tm_model.specs.declared.outcome.Event.TheVariants.{Abort, Drain}
use Rattle.tm_model.specs.declared.outcome.Interference.TheVariants.{Interrupt, Eviction, Snoop}
use Rattle.tm_model.specs.declared.outcome.Outcome.{Outcome}
use Rattle.tm_model.specs.declared.outcome.Outcome.TheVariants.{Drained}
use Rattle.tm_model.specs.declared.outcome.Pick.{Pick}
use Rattle.tm_model.specs.Runs.{event_told, pick_of, picks_of}
use Rattle.tm_model.specs.State.{opening_state}
use Rattle.tm_model.specs.Steps.{step}
use Rattle.tm_model.proofs.NonePending.{NonePending, no_drain, none_at_end, none_at_first}
use Rattle.tm_pick.specs.Kinds.{AreOfKinds, IsOfKinds}
use Rattle.tm_pick.specs.declared.kinds.Kinds.{Kinds}
use Rattle.tm_hunt.specs.Runs.{AreToldOf, kinds_told}
use Rattle.tm_hunt.proofs.Left.{step_is}

abbrev OfKinds : Kinds → Pick → Type 0
OfKinds kinds pick = IsOfKinds kinds pick.event

-- ---- what a step tells of

told_among : (stores : ℕ) (kinds : Kinds) (event : Option Event) → IsOfKinds kinds event →
    IsOfKinds (kinds_told stores kinds) event
told_among zero kinds event h = h
told_among (suc stores) kinds None h = tt
told_among (suc stores) kinds (Some Drain) h = refl
told_among (suc stores) kinds (Some (Abort Interrupt)) h = h
told_among (suc stores) kinds (Some (Abort Eviction)) h = h
told_among (suc stores) kinds (Some (Abort Snoop)) h = h

drain_told : (stores : ℕ) (kinds : Kinds) → (stores ≡ 0 → ⊥) → IsOfKinds (kinds_told stores kinds) (Some Drain)
drain_told zero kinds some = absurd (some refl)
drain_told (suc stores) kinds some = refl

-- an event of the kinds that the step's is of, or a drain
told_of : (stores : ℕ) (kinds : Kinds) (event : Option Event) (outcome : Outcome) → TellsOf event outcome →
    (stores ≡ 0 → outcome ≡ Drained → ⊥) → IsOfKinds kinds event →
    IsOfKinds (kinds_told stores kinds) (event_told outcome)
told_of stores kinds event outcome (inl none) never h = subst (IsOfKinds (kinds_told stores kinds)) (sym none) tt
told_of stores kinds event outcome (inr (inl same)) never h =
    subst (IsOfKinds (kinds_told stores kinds)) (sym same) (told_among stores kinds event h)
told_of stores kinds event outcome (inr (inr drained)) never h =
    subst (λ (o : Outcome). IsOfKinds (kinds_told stores kinds) (event_told o)) (sym drained)
    (drain_told stores kinds (λ zero. never zero drained))

-- where no store may be pending, no step is a drain
never_drains : (before after : Board) (core : ℕ) (outcome : Outcome) (h : IsHistory before) (l : IsHistory after) →
    SameBoard before after → after.history ≡ before.history ++ (core, outcome) ∷ [] → before.limits.stores ≡ 0 →
    outcome ≡ Drained → ⊥
never_drains before after core outcome h l same made off drained =
    let none : NonePending h.end =
    none_at_end (board_setting before) (opening_state before.program) before.history h.end off
    (none_at_first before.program) h.is_run in
    no_drain (board_setting before) h.end core l.end none
    (subst (λ (o : Outcome). step (board_setting before) h.end core o ≡ Some l.end) drained
    (step_is before after core outcome h l same made))

-- ---- what a run tells of

-- one more step
pub step_of : (kinds : Kinds) (before after : Board) (core : ℕ) (outcome : Outcome) (event : Option Event) →
    IsHistory before → IsHistory after → SameBoard before after →
    after.history ≡ before.history ++ (core, outcome) ∷ [] → TellsOf event outcome → IsOfKinds kinds event →
    AreToldOf kinds before → AreToldOf kinds after
step_of kinds before after core outcome event was is same made tells h so_far =
    let one : Pick = pick_of (core, outcome) in
    let all : Kinds = kinds_told before.limits.stores kinds in
    let picks : picks_of after.history ≡ picks_of before.history ++ one ∷ [] =
    ap picks_of made ∙ map-append pick_of before.history ((core, outcome) ∷ []) in
    subst (λ (stores : ℕ). AreOfKinds (kinds_told stores kinds) (picks_of after.history))
    (sym (ap (λ limits. limits.stores) same.limits))
    (subst (AreOfKinds all) (sym picks)
    (All-push (OfKinds all) (picks_of before.history) one so_far
    (told_of before.limits.stores kinds event outcome tells (never_drains before after core outcome was is same made)
    h)))

pub none_made : (kinds : Kinds) (board : Board) → board.history ≡ [] → AreToldOf kinds board
none_made kinds board none =
    let all : Kinds = kinds_told board.limits.stores kinds in
    subst (λ (h : List (ℕ × Outcome)). AreOfKinds all (picks_of h)) (sym none) (All-nil (OfKinds all))
