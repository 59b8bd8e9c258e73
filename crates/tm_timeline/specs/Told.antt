-- What a timeline keeps of the steps that it is told (docs/FORMATS.md, "Pictures").
use Rattle.std.specs.Prelude.{◌≡◌, ℕ, ◌+◌, Bool, true, false, List, ◌++◌, ◌∷◌, []}
use Rattle.tm_timeline.specs.declared.fate.Fate.{Fate}
use Rattle.tm_timeline.specs.declared.picture.Picture.{Picture}
use Rattle.tm_timeline.specs.declared.picture.Picture.TheVariants.{Few, Many}
use Rattle.tm_timeline.specs.declared.spans.Span.{Span}
use Rattle.tm_timeline.specs.declared.timeline.Timeline.{Timeline}
use Rattle.tm_timeline.specs.declared.window.Window.{Window}

-- whether transactions are drawn one by one
abbrev pub is_few : Picture → Bool
is_few (Few _) = true
is_few (Many _) = false

-- the transactions that are drawn one by one
abbrev pub bars : Picture → List Span
bars (Few few) = few.spans.items
bars (Many _) = []

-- a transaction of this core that ended with this step, and what it came to
pub record IsEnded (span : Span) (by step : ℕ) (what : Fate) : Type 0 where
  pub core : span.core ≡ by
  pub end : span.end ≡ step + 1
  pub fate : span.fate ≡ what

-- a bar is added for a transaction that ended
pub record AddsBar (old new : Picture) (by step : ℕ) (what : Fate) : Type 0 where
  pub span : Span
  pub ended : IsEnded span by step what
  pub added : bars new ≡ bars old ++ span ∷ []

-- bars are added behind those that there were, and none is taken away
abbrev pub GrowBars : Picture → Picture → Type 0
GrowBars old new = (more : List Span) × (bars new ≡ bars old ++ more)

-- no step is told yet of a run that is drawn in this window
pub record IsBlank (window : Window) (timeline : Timeline) : Type 0 where
  pub drawn : timeline.window ≡ window
  pub next : timeline.next ≡ 0
  pub none : bars timeline.picture ≡ []

-- the same steps are told, and the same bars are drawn
pub record SameSteps (old new : Timeline) : Type 0 where
  pub window : new.window ≡ old.window
  pub next : new.next ≡ old.next
  pub few : is_few new.picture ≡ is_few old.picture
  pub bars : bars new.picture ≡ bars old.picture

-- the picture is of the same window and kind, and no bar was taken away
pub record Grows (old new : Timeline) : Type 0 where
  pub window : new.window ≡ old.window
  pub few : is_few new.picture ≡ is_few old.picture
  pub bars : GrowBars old.picture new.picture
