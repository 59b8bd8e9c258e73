-- Steps whose events are drawn, and one more.
use Rattle.std.proofs.Common.{◌≡◌, ℕ, Bool, true, false, List, [], ◌∷◌, ◌++◌, Option, None, Some, refl, ap, subst}
use Rattle.std.proofs.Common.{◌∙◌, sym, inl, inr}
use Rattle.std.specs.Prelude.{◌⊎◌, ◌&&◌, MatchOption, not}
use Rattle.std.proofs.lemmas.List.Elements.{All-append, All-cons, All-head, All-nil, All-tail}
use Rattle.tm_model.proofs.Events.{no_event_told}
use Rattle.tm_model.proofs.NonePending.{NonePending, none_behind, owed_is, within}
use Rattle.tm_model.specs.Conflicts.{Doomed, doomed_after}
use Rattle.tm_model.specs.Owed.{owed_under}
use Rattle.tm_model.specs.Runs.{IsOwedUnder, event_told, pick_of}
use Rattle.tm_model.specs.Setting.{Setting}
use Rattle.tm_model.specs.State.{Closed, Core, Halted, Midway, Opened, State}
use Rattle.tm_model.specs.Steps.{step}
use Rattle.tm_model.specs.declared.outcome.Event.{Event}
use Rattle.tm_model.specs.declared.outcome.Event.TheVariants as event
use Rattle.tm_model.specs.declared.outcome.Outcome.{Outcome}
use Rattle.tm_model.specs.declared.outcome.Pick.{Pick}
use Rattle.tm_pick.specs.Drawn.{AreDrawn}
use Rattle.tm_pick.specs.Kinds.{IsOfKinds, no_kinds}
use Rattle.tm_pick.specs.declared.events.Events.{Events}
use Rattle.tm_pick.specs.declared.events.Events.TheVariants.{Never, Rate, Draw}
use Rattle.tm_pick.specs.declared.kinds.Kinds.{Kinds}
use Rattle.elide_setup.specs.Drawing.{AreDrained, AreUnder, ComeAs, ComeWith, IsUnder, has_own_drains, names_drains}
use Rattle.elide_setup.specs.Drawing.{one_more}
use Rattle.elide_setup.specs.OwnDrains.{Befalls}
use Rattle.elide_setup.specs.declared.own_drains.OwnDrains.{OwnDrains}
use Rattle.elide_setup.specs.declared.plan.Drawn.{Drawn}
use Rattle.elide_setup.specs.Owing.{AreOwedUnder}
use Rattle.elide_setup.specs.Schedules.{picks_made, picks_told}

pub is_under : (events : Events) (kinds : Kinds) (event : Option Event) → AreDrawn events kinds → IsOfKinds kinds event
    → (kinds ≡ no_kinds → event ≡ None) → IsUnder events event
is_under Never kinds event drawn of never = never drawn
is_under (Rate many asked) kinds event drawn of never = subst (λ (k : Kinds). IsOfKinds k event) drawn of
is_under Draw kinds event drawn of never = tt

under_one : (events : Events) (kinds : Kinds) (pick : Pick) → AreDrawn events kinds → IsOfKinds kinds pick.event
    → (kinds ≡ no_kinds → pick.event ≡ None) →
    AreUnder events (pick ∷ [])
under_one events kinds pick drawn of never =
    let P : Pick → Type 0 = λ p. IsUnder events p.event in
    All-cons P pick [] (is_under events kinds pick.event drawn of never) (All-nil P)

-- ---- with drains besides, or without

pub come_drained : (drawn : Drawn) (own : OwnDrains) (picks : List Pick) → has_own_drains drawn ≡ true
    → AreDrained drawn.seed drawn.events own picks → ComeAs drawn picks
come_drained drawn own picks is h =
    subst (λ (besides : Bool). ComeWith besides drawn.seed drawn.events picks) (sym is) (own, h)

pub come_under : (drawn : Drawn) (picks : List Pick) → has_own_drains drawn ≡ false → AreUnder drawn.events picks
    → ComeAs drawn picks
come_under drawn picks is h =
    subst (λ (besides : Bool). ComeWith besides drawn.seed drawn.events picks) (sym is) h

pub under_come : (drawn : Drawn) (picks : List Pick) → has_own_drains drawn ≡ false → ComeAs drawn picks
    → AreUnder drawn.events picks
under_come drawn picks is h = subst (λ (besides : Bool). ComeWith besides drawn.seed drawn.events picks) is h

-- none come besides where no store may be pending
pub no_own : (drawn : Drawn) → drawn.drains ≡ false → has_own_drains drawn ≡ false
no_own drawn off = ap (λ (drains : Bool). drains && not (names_drains drawn.events)) off

pub under_next : (events : Events) (kinds : Kinds) (picks : List Pick) (pick : Pick) → AreDrawn events kinds
    → IsOfKinds kinds pick.event → (kinds ≡ no_kinds → pick.event ≡ None) → AreUnder events picks
    → AreUnder events (picks ++ pick ∷ [])
under_next events kinds picks pick drawn of never under =
    All-append (λ (p : Pick). IsUnder events p.event) picks (pick ∷ []) under
    (under_one events kinds pick drawn of never)

-- one more with drains besides
pub drained_next : (drawn : Drawn) (kinds : Kinds) (own after : OwnDrains) (picks : List Pick) (picked pick : Pick)
    → AreDrawn drawn.events kinds → IsOfKinds kinds picked.event → (kinds ≡ no_kinds → picked.event ≡ None)
    → pick.core ≡ picked.core → Befalls own picked.core picked.event pick.event after
    → AreDrained drawn.seed drawn.events own picks → AreDrained drawn.seed drawn.events after (picks ++ pick ∷ [])
drained_next drawn kinds own after picks picked pick of kind never same befalls h =
    one_more own after picks picked.event pick h (is_under drawn.events kinds picked.event of kind never)
    (subst (λ (core : ℕ). Befalls own core picked.event pick.event after) (sym same) befalls)

-- ---- the events that their outcomes tell

-- where an outcome tells one, it is the one that it is owed under, as no store is pending
told_by : (by : Option Event) (setting : Setting) (memory : List ℕ) (core : Core) (doom : Option ℕ) →
    (event_told (owed_under by setting memory [] core doom) ≡ None)
    ⊎ (event_told (owed_under by setting memory [] core doom) ≡ by)
told_by None setting memory core doom = inl (no_event_told setting memory core doom)
told_by (Some event.Drain) setting memory core doom = inl (no_event_told setting memory core doom)
told_by (Some (event.Abort by)) setting memory (Opened regs steps) None = inr refl
told_by (Some (event.Abort by)) setting memory (Opened regs steps) (Some depth) = inl refl
told_by (Some (event.Abort by)) setting memory (Closed regs) doom =
    inl (no_event_told setting memory (Closed regs) doom)
told_by (Some (event.Abort by)) setting memory (Midway regs value) doom =
    inl (no_event_told setting memory (Midway regs value) doom)
told_by (Some (event.Abort by)) setting memory (Halted regs stop) doom =
    inl (no_event_told setting memory (Halted regs stop) doom)

none_under : (events : Events) → IsUnder events None
none_under Never = refl
none_under (Rate many kinds) = tt
none_under Draw = tt

told_under : (events : Events) (setting : Setting) (state : State) (doomed : Doomed) (pick : Pick) (outcome : Outcome) →
    state.pending pick.core ≡ [] →
    IsUnder events pick.event → IsOwedUnder pick.event setting state doomed pick.core outcome
    → IsUnder events (event_told outcome)
told_under events setting state doomed pick outcome left under owed =
    let core : Core = state.cores pick.core in
    let is : outcome ≡ owed_under pick.event setting state.memory [] core (doomed pick.core) =
    owed ∙ owed_is pick.event setting state.memory (state.pending pick.core) core (doomed pick.core) left in
    elim (told_by pick.event setting state.memory core (doomed pick.core)) [
      | inl none ↦ subst (λ (e : Option Event). IsUnder events e) (sym (ap event_told is ∙ none)) (none_under events)
      | inr same ↦ subst (λ (e : Option Event). IsUnder events e) (sym (ap event_told is ∙ same)) under
    ]

-- so the picks that they tell come under those that may be drawn
pub all_told_under : (events : Events) (setting : Setting) (state : State) (doomed : Doomed)
    (steps : List (Pick × Outcome)) → setting.store_buffer ≡ 0 → NonePending state →
    AreOwedUnder setting state doomed steps → AreUnder events (picks_made steps) → AreUnder events (picks_told steps)
all_told_under events setting state doomed [] off none owed under = All-nil (λ (p : Pick). IsUnder events p.event)
all_told_under events setting state doomed (made ∷ steps) off none owed under =
    let P : Pick → Type 0 = λ p. IsUnder events p.event in
    (elim (step setting state made.0.core made.1) as (λ t. step setting state made.0.core made.1 ≡ t →
    MatchOption t ⊥ (λ next. AreOwedUnder setting next (doomed_after setting state doomed made.0.core made.1) steps)
    → AreUnder events (picks_told (made ∷ steps))) [
      | None ↦ λ is never. absurd never
      | Some next ↦ λ is more.
          All-cons P (pick_of (made.0.core, made.1)) (picks_told steps)
          (told_under events setting state doomed made.0 made.1
          (none made.0.core (within setting state made.0.core made.1 next is))
          (All-head P made.0 (picks_made steps) under) owed.0)
          (all_told_under events setting next (doomed_after setting state doomed made.0.core made.1) steps off
          (none_behind setting state made.0.core made.1 next off none is) more
          (All-tail P made.0 (picks_made steps) under))
    ]) refl owed.1
