-- What a picture was told of a run (docs/FORMATS.md, "Pictures"): each step that was made, once and in order.
use Rattle.std.specs.Prelude.{◌≡◌, ⊤, ℕ, ◌+◌, ◌^◌, ◌<◌, ◌≤◌, true, List, [], ◌∷◌, Contains, Some, length}
use Rattle.tm_model.specs.declared.outcome.Outcome.{Outcome}
use Rattle.tm_model.specs.declared.outcome.Pick.{Pick}
use Rattle.tm_timeline.specs.Fates.{fate_at}
use Rattle.tm_timeline.specs.Told.{Grows, IsEnded, bars, is_few}
use Rattle.tm_timeline.specs.declared.fate.Fate.{Fate}
use Rattle.tm_timeline.specs.declared.picture.Picture.{Picture}
use Rattle.tm_timeline.specs.declared.spans.Span.{Span}
use Rattle.tm_timeline.specs.declared.timeline.Timeline.{Timeline}
use Rattle.tm_timeline.specs.declared.window.Window.{Window}

-- there is a bar of a transaction of this core that came to this by the step with this number
pub record HasBar (picture : Picture) (core number : ℕ) (what : Fate) : Type 0 where
  pub span : Span
  pub drawn : Contains (bars picture) span
  pub ended : IsEnded span core number what

-- the step with this number has its bar, where it is in the window and ends a transaction
abbrev pub IsShown : Picture → Window → ℕ → (Pick × Outcome) → Type 0
IsShown picture window number step =
    (what : Fate) → fate_at step.1 ≡ Some what → window.from ≤ number → number < window.to →
    HasBar picture step.0.core number what

-- so have steps one behind the other, of which the first has this number
abbrev pub AreShown : Picture → Window → ℕ → List (Pick × Outcome) → Type 0
AreShown picture window number [] = ⊤
AreShown picture window number (step ∷ steps) =
    IsShown picture window number step × AreShown picture window (number + 1) steps

-- these steps were told, no more and no fewer, where they are below 2^32 in all
pub record AreTold (before : Timeline) (steps : List (Pick × Outcome)) (after : Timeline) : Type 0 where
  pub grows : Grows before after
  pub next : before.next + length steps < 2 ^ 32 → after.next ≡ before.next + length steps
  pub shown :
      before.next + length steps < 2 ^ 32 → is_few before.picture ≡ true →
      AreShown after.picture before.window before.next steps

-- a picture of a window was told the steps of a run, and of no other
pub record IsToldOf (window : Window) (steps : List (Pick × Outcome)) (timeline : Timeline) : Type 0 where
  pub drawn : timeline.window ≡ window
  pub next : length steps < 2 ^ 32 → timeline.next ≡ length steps
  pub shown :
      length steps < 2 ^ 32 → is_few timeline.picture ≡ true → AreShown timeline.picture window 0 steps
