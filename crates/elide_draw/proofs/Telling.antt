-- Steps that a picture is told, some behind others.
use Rattle.std.proofs.Common.{◌≡◌, ℕ, ◌+◌, ◌^◌, ◌<◌, ◌≤◌, ◌∙◌, List, [], ◌∷◌, ◌++◌, Some, true, arith, refl, sym, ap}
use Rattle.std.proofs.Common.{subst, append-nil, append_assoc, length, length-append}
use Rattle.std.specs.Prelude.{Contains, IfErr, IfOk, Result, Ok, Err, ⊤}
use Rattle.std.proofs.lemmas.List.Elements.{Contains-append_left, Contains-append_right}
use Rattle.elide_setup.specs.Runs.{AreMachineSteps}
use Rattle.tm_core.specs.Theorem.{ShownMachine as Machine}
use Rattle.elide_setup.specs.Walks.{Leads, PartsLead, steps_in}
use Rattle.tm_model.specs.declared.outcome.Outcome.{Outcome}
use Rattle.tm_model.specs.declared.outcome.Pick.{Pick}
use Rattle.tm_timeline.specs.Fates.{fate_at}
use Rattle.tm_timeline.specs.Told.{AddsBar, GrowBars, Grows, IsBlank, SameSteps, bars, is_few}
use Rattle.tm_timeline.specs.declared.fate.Fate.{Fate}
use Rattle.tm_timeline.specs.declared.picture.Picture.{Picture}
use Rattle.tm_timeline.specs.declared.spans.Span.{Span}
use Rattle.tm_timeline.specs.declared.timeline.Timeline.{Timeline}
use Rattle.tm_timeline.specs.declared.window.Window.{Window}
use Rattle.elide_draw.specs.Told.{AreShown, AreTold, HasBar, IsToldOf}

-- ---- two clauses of one answer

pub if_ok_both : {T E : Type 0} (r : Result T E) (A B : T → Type 0) → IfOk r A → IfOk r B → IfOk r (λ v. A v × B v)
if_ok_both (Ok v) A B h k = (h, k)
if_ok_both (Err e) A B h k = tt

-- a refusal may have any reason
pub any_reason : {T E : Type 0} (r : Result T E) → IfErr r (λ _. ⊤)
any_reason (Ok v) = tt
any_reason (Err e) = tt

-- ---- what stays

pub same_self : (a : Timeline) → SameSteps a a
same_self a = record { window = refl; next = refl; few = refl; bars = refl }

pub same_more : (a b c : Timeline) → SameSteps a b → SameSteps b c → SameSteps a c
same_more a b c one other = record {
  window = other.window ∙ one.window;
  next = other.next ∙ one.next;
  few = other.few ∙ one.few;
  bars = other.bars ∙ one.bars;
}

grows_same : (a b : Timeline) → SameSteps a b → Grows a b
grows_same a b same = record {
  window = same.window;
  few = same.few;
  bars = ([], same.bars ∙ sym (append-nil (bars a.picture)));
}

grows_more : (a b c : Timeline) → Grows a b → Grows b c → Grows a c
grows_more a b c one other = record {
  window = other.window ∙ one.window;
  few = other.few ∙ one.few;
  bars = (
    one.bars.0 ++ other.bars.0,
    other.bars.1
        ∙ (ap (λ (l : List Span). l ++ other.bars.0) one.bars.1
        ∙ append_assoc (bars a.picture) one.bars.0 other.bars.0),
  );
}

-- ---- bars

bar_still : (old new : Picture) (core number : ℕ) (what : Fate) → GrowBars old new → HasBar old core number what →
    HasBar new core number what
bar_still old new core number what more h = record {
  span = h.span;
  drawn =
      subst (λ (l : List Span). Contains l h.span) (sym more.1) (Contains-append_left (bars old) more.0 h.span h.drawn);
  ended = h.ended;
}

shown_still : (old new : Picture) (window : Window) (number : ℕ) (steps : List (Pick × Outcome)) → GrowBars old new →
    AreShown old window number steps → AreShown new window number steps
shown_still old new window number [] more h = tt
shown_still old new window number (step ∷ steps) more h = (
  λ what ends from to. bar_still old new step.0.core number what more (h.0 what ends from to),
  shown_still old new window (number + 1) steps more h.1,
)

shown_behind : (picture : Picture) (window : Window) (number next : ℕ) (steps others : List (Pick × Outcome)) →
    number + length steps ≡ next → AreShown picture window number steps → AreShown picture window next others →
    AreShown picture window number (steps ++ others)
shown_behind picture window number next [] others is h k =
    subst (λ (n : ℕ). AreShown picture window n others) (let same : next ≡ number = omega arith in same) k
shown_behind picture window number next (step ∷ steps) others is h k =
    (h.0, shown_behind picture window (number + 1) next steps others (omega arith) h.1 k)

-- ---- steps

pub told_none : (a b : Timeline) → SameSteps a b → AreTold a [] b
told_none a b same = record {
  grows = grows_same a b same;
  next = λ few.
      let kept : b.next ≡ a.next = same.next in
      let behind : b.next ≡ a.next + 0 = omega arith in
      behind;
  shown = λ few detailed. tt;
}

pub told_then : (a b c : Timeline) (steps others : List (Pick × Outcome)) → AreTold a steps b → AreTold b others c →
    AreTold a (steps ++ others) c
told_then a b c steps others one other =
    let long = length-append steps others in
    record {
      grows = grows_more a b c one.grows other.grows;
      next = λ few.
          let first = one.next (omega arith) in
          let last = other.next (omega arith) in
          omega arith;
      shown = λ few detailed.
          let first : b.next ≡ a.next + length steps = one.next (omega arith) in
          let Shown : Window → Type 0 = λ w. AreShown c.picture w b.next others in
          shown_behind c.picture a.window a.next b.next steps others (sym first)
          (shown_still b.picture c.picture a.window a.next steps other.grows.bars (one.shown (omega arith) detailed))
          (subst Shown one.grows.window (other.shown (omega arith) (one.grows.few ∙ detailed)));
    }

-- one step, and what is told beside it
pub told_one : (a b : Timeline) (pick : Pick) (came_to : Outcome)
    → (a.next + 1 < 2 ^ 32 → b.next ≡ a.next + 1) → Grows a b →
    ((what : Fate) → fate_at came_to ≡ Some what → is_few a.picture ≡ true → a.window.from ≤ a.next →
    a.next < a.window.to → AddsBar a.picture b.picture pick.core a.next what) →
    AreTold a ((pick, came_to) ∷ []) b
told_one a b pick came_to next grows bar = record {
  grows = grows;
  next = next;
  shown = λ few detailed. (
    λ what ends from to.
        let added = bar what ends detailed from to in
        record {
          span = added.span;
          drawn =
              subst (λ (l : List Span). Contains l added.span) (sym added.added)
              (Contains-append_right (bars a.picture) (added.span ∷ []) added.span (0, omega arith, refl));
          ended = added.ended;
        },
    tt,
  );
}

pub told_between : (a b c d : Timeline) (steps : List (Pick × Outcome)) → SameSteps a b → AreTold b steps c
    → SameSteps c d →
    AreTold a steps d
told_between a b c d steps before told after =
    subst (λ (l : List (Pick × Outcome)). AreTold a l d) (append-nil steps)
    (told_then a c d steps [] (told_then a b c [] steps (told_none a b before) told) (told_none c d after))

-- ---- a walk

abbrev pub Watches : {W : Type 0} → (W → Machine) → (W → Timeline) → W → List (Pick × Outcome) → W → Type 0
Watches machine_of timeline_of before steps after =
    AreMachineSteps (machine_of before) steps (machine_of after)
    × AreTold (timeline_of before) steps (timeline_of after)

parts_told : {W : Type 0} (machine_of : W → Machine) (timeline_of : W → Timeline) (parts : List (List (Pick × Outcome)))
    (a b : W) → PartsLead (Watches machine_of timeline_of) a parts b →
    PartsLead AreMachineSteps (machine_of a) parts (machine_of b)
    × AreTold (timeline_of a) (steps_in parts) (timeline_of b)
parts_told machine_of timeline_of [] a b h = (
  ap machine_of h,
  subst (λ w. AreTold (timeline_of a) [] (timeline_of w)) (sym h) (told_none _ _ (same_self (timeline_of a))),
)
parts_told machine_of timeline_of (part ∷ parts) a b h =
    let more = parts_told machine_of timeline_of parts h.0 b h.2 in (
      (machine_of h.0, h.1.0, more.0),
      told_then (timeline_of a) (timeline_of h.0) (timeline_of b) part (steps_in parts) h.1.1 more.1,
    )

-- all steps of a walk
pub walk_told : {W : Type 0} (a b : W) (machine_of : W → Machine) (timeline_of : W → Timeline)
    (steps : List (Pick × Outcome)) →
    Leads (Watches machine_of timeline_of) a steps b →
    Leads AreMachineSteps (machine_of a) steps (machine_of b) × AreTold (timeline_of a) steps (timeline_of b)
walk_told a b machine_of timeline_of steps h =
    let all = parts_told machine_of timeline_of h.0 a b h.2 in (
      (h.0, h.1, all.0),
      subst (λ (l : List (Pick × Outcome)). AreTold (timeline_of a) l (timeline_of b)) h.1 all.1,
    )

-- ---- a run

pub told_of : (window : Window) (steps : List (Pick × Outcome)) (blank begun last done : Timeline)
    → IsBlank window blank →
    SameSteps blank begun → AreTold begun steps last → done.next ≡ last.next → Grows last done →
    IsToldOf window steps done
told_of window steps blank begun last done none same told still grows =
    let first : begun.next ≡ 0 = same.next ∙ none.next in
    let drawn : begun.window ≡ window = same.window ∙ none.drawn in
    record {
      drawn = grows.window ∙ (told.grows.window ∙ drawn);
      next = λ few.
          let there = told.next (omega arith) in
          omega arith;
      shown = λ few detailed.
          let kind : is_few begun.picture ≡ true = sym told.grows.few ∙ (sym grows.few ∙ detailed) in
          let shown = told.shown (omega arith) kind in
          subst (λ (n : ℕ). AreShown done.picture window n steps) first
          (subst (λ (w : Window). AreShown done.picture w begun.next steps) drawn
          (shown_still last.picture done.picture begun.window begun.next steps grows.bars shown));
    }
