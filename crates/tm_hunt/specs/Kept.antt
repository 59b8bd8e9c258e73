-- What making a schedule shorter keeps of its events.
use Rattle.std.specs.Prelude.{◌≡◌, ℕ, List, Contains, Some}
use Rattle.tm_model.specs.declared.outcome.Event.TheVariants.{Drain}
use Rattle.tm_model.specs.declared.outcome.Pick.{Pick}
use Rattle.tm_pick.specs.Kinds.{AreOfKinds}
use Rattle.tm_pick.specs.declared.kinds.Kinds.{Kinds}
use Rattle.tm_hunt.specs.Runs.{kinds_told}

-- the new one's events are of the kinds of the old one's
abbrev pub KeepsKinds : List Pick → List Pick → Type 0
KeepsKinds old new = (kinds : Kinds) → AreOfKinds kinds old → AreOfKinds kinds new

-- the same of the run of a front, with drains for which steps wait where so many stores of a core may be pending
abbrev pub ComesOf : ℕ → List Pick → List Pick → Type 0
ComesOf stores front picks =
    (kinds : Kinds) → AreOfKinds kinds front → AreOfKinds (kinds_told stores kinds) picks

-- some step is a drain
abbrev pub HasDrain : List Pick → Type 0
HasDrain picks = (pick : Pick) × Contains picks pick × (pick.event ≡ Some Drain)

-- the events of a front and of the schedule that it leads to are of the kinds of those before
pub record KeepKinds (old_front old new_front new : List Pick) : Type 0 where
  pub front : (kinds : Kinds) → AreOfKinds kinds old_front → AreOfKinds kinds new_front
  pub best : (kinds : Kinds) → AreOfKinds kinds old_front → AreOfKinds kinds old → AreOfKinds kinds new
