-- A machine that tells its steps as it makes them.
use Rattle.std.specs.Prelude.{◌≡◌, ℕ, ◌+◌, ◌<◌, ◌≤◌, ◌&&◌, nat_eq, nat_le, nat_lt, List, [], ◌∷◌, Option}
use Rattle.std.specs.Prelude.{if◌then◌else◌, length}
use Rattle.text_out.specs.Writing.{Device, Wrote}
use Rattle.tm_model.specs.declared.outcome.Outcome.{Outcome}
use Rattle.tm_model.specs.declared.outcome.Pick.{Pick}
use Rattle.elide_setup.specs.Runs.{IsMachineStep}
use Rattle.tm_core.specs.Theorem.{ShownMachine as Machine, StandsFor, view_at}
use Rattle.tm_model.specs.State.{State}
use Rattle.tm_page.specs.Difference.{IsTold}
use Rattle.page_run.specs.Plain.{ArePlain}
use Rattle.page_run.specs.declared.window.Window.{Window}
use Rattle.page_telling.specs.Kept.{AreAllKept, IsKeptBehind}
use Rattle.page_telling.specs.Told.{ToldStep, line_text, made_of}
use Rattle.page_telling.specs.declared.kept.KeptByte.{KeptByte}

-- what is known of a step that was made
pub record IsMade (before : Machine) (old : List KeptByte) (one : ToldStep) (after : Machine) (new : List KeptByte)
    : Type 0 where
  pub step : IsMachineStep before one.pick one.outcome after
  pub mode : (view_at before one.pick.core).mode ≡ one.before
  pub told :
      (state : State) (doomed : ℕ → Option ℕ) → StandsFor before state doomed → AreAllKept before old →
      IsTold before after one.pick.core one.outcome one.delta
  pub kept : IsKeptBehind one.outcome one.pick.core one.delta.stored.items old new

-- what is written of a step behind so many others: its line, where it stands in the page; otherwise perhaps what opens
-- the page
abbrev pub piece_of : Window → ℕ → ToldStep → List ℕ → List ℕ
piece_of window made told opening =
    if nat_le window.from made && nat_lt made window.to
    then line_text (nat_eq made window.from) told.delta told.before
    else opening

pub record IsPiece (window : Window) (made : ℕ) (told : ToldStep) (first last : Device) : Type 0 where
  pub opening : List ℕ
  pub plain : ArePlain (piece_of window made told opening)
  pub wrote : Wrote first last (piece_of window made told opening)

-- the machine, the bytes that its transactions keep, the steps that are written, how many were made, and the device
pub record Spot : Type 0 where
  pub machine : Machine
  pub kept : List KeptByte
  pub window : Window
  pub made : ℕ
  pub device : Device

-- a step up to the last that is written
pub record TellsOne (before : Spot) (step : Pick × Outcome) (after : Spot) : Type 0 where
  pub told : ToldStep
  pub is : made_of told ≡ step
  pub made : IsMade before.machine before.kept told after.machine after.kept
  pub piece : IsPiece before.window before.made told before.device after.device

pub record TellsStep (before : Spot) (step : Pick × Outcome) (after : Spot) : Type 0 where
  pub cores : length after.machine.views ≡ length before.machine.views
  pub window : after.window ≡ before.window
  pub made : after.made ≡ before.made + 1
  pub told : before.made < before.window.to → TellsOne before step after
  pub behind : before.window.to ≤ before.made → after.device ≡ before.device

-- steps one by one
abbrev pub Tells : Spot → List (Pick × Outcome) → Spot → Type 0
Tells before steps after = (step : Pick × Outcome) × (steps ≡ step ∷ []) × TellsStep before step after
