-- The reasons of a page: why its steps aborted or stopped (docs/FORMATS.md, "Pages"; page/README.md, "why").
use Rattle.std.specs.Prelude.{◌≡◌, ℕ, ◌+◌, ◌-◌, ◌&&◌, ◌||◌, Bool, true, false, List, [], ◌∷◌, ◌++◌, codes}
use Rattle.std.specs.Prelude.{decimal, if◌then◌else◌, length, map, nat_le, nat_lt}
use Rattle.text_out.specs.Writing.{Device, Wrote}
use Rattle.tm_model.specs.declared.outcome.Outcome.{Outcome}
use Rattle.tm_model.specs.declared.outcome.Outcome.TheVariants as outcome
use Rattle.tm_model.specs.declared.outcome.Pick.{Pick}
use Rattle.elide_setup.specs.Runs.{IsMachineStep, IsRunOf}
use Rattle.elide_setup.specs.Schedules.{AreOf, picks_made}
use Rattle.tm_core.specs.Theorem.{ShownMachine as Machine}
use Rattle.page_run.specs.Plain.{ArePlain}
use Rattle.page_run.specs.declared.stretch.Stretch.{Stretch}
use Rattle.page_run.specs.declared.window.Window.{Window}
use Rattle.page_text.specs.Escaped.{string_text}

-- ---- which steps have one

-- it aborted, or its core stopped
abbrev pub has_reason : Outcome → Bool
has_reason (outcome.Stopped stop) = true
has_reason (outcome.Aborted status) = true
has_reason (outcome.AbortedBy by status) = true
has_reason outcome.Plain = false
has_reason outcome.Loaded = false
has_reason outcome.Idle = false
has_reason outcome.Begun = false
has_reason outcome.Inside = false
has_reason outcome.Committed = false
has_reason outcome.Drained = false

-- of a step behind so many others: it stands in the page, and has a reason
abbrev pub is_told : Window → ℕ → Outcome → Bool
is_told window made what = (nat_le window.from made && nat_lt made window.to) && has_reason what

-- ---- what is written

-- behind another, or the first
abbrev pub reason_front : Bool → List ℕ
reason_front some = if some then codes ",\n\"" else codes "\n\""

-- the number of its step in the page, from 1, and why
abbrev pub reason_text : Bool → ℕ → List ℕ → List ℕ
reason_text some step reason = reason_front some ++ (decimal step ++ (codes "\":" ++ string_text reason 400))

-- of a step behind so many others
abbrev pub piece_text : Window → ℕ → Bool → Outcome → List ℕ → List ℕ
piece_text window made some what reason =
    if is_told window made what then reason_text some (made + 1 - window.from) reason else []

-- a step, and why it aborted or stopped, where it did
pub record ReasonedStep : Type 0 where
  pub pick : Pick
  pub outcome : Outcome
  pub reason : List ℕ

abbrev pub steps_of : List ReasonedStep → List (Pick × Outcome)
steps_of told = map (λ one. (one.pick, one.outcome)) told

-- of steps behind so many others, of which some had one or none had
abbrev pub reasons_text : Window → ℕ → Bool → List ReasonedStep → List ℕ
reasons_text window made some [] = []
reasons_text window made some (one ∷ others) =
    piece_text window made some one.outcome one.reason
    ++ reasons_text window (made + 1) (some || is_told window made one.outcome) others

-- ---- a run

-- of each step of the page that aborted or stopped, and of no other: of a run along the course, made by the rules
pub record AreReasonsOf (stretch : Stretch) (text : List ℕ) : Type 0 where
  pub told : List ReasonedStep
  pub course : AreOf stretch.course.now (picks_made (steps_of told))
  pub total : length told ≡ stretch.total
  pub machine : Machine
  pub ran : IsRunOf stretch.setup.now.program stretch.setup.now.limits (steps_of told) machine
  pub plain : ArePlain text
  pub is : text ≡ codes ",\n\"why\":{" ++ (reasons_text stretch.window 0 false told ++ codes "}}")

-- ---- as they are written

-- the machine, the steps of the page, how many were made, whether one of them had a reason, and the device
pub record Spot : Type 0 where
  pub machine : Machine
  pub window : Window
  pub made : ℕ
  pub some : Bool
  pub device : Device

-- what is written of one step
pub record IsPiece (window : Window) (made : ℕ) (some : Bool) (what : Outcome) (first last : Device) : Type 0 where
  pub reason : List ℕ
  pub plain : ArePlain (piece_text window made some what reason)
  pub wrote : Wrote first last (piece_text window made some what reason)

pub record ReasonsOne (before : Spot) (pick : Pick) (what : Outcome) (after : Spot) : Type 0 where
  pub step : IsMachineStep before.machine pick what after.machine
  pub window : after.window ≡ before.window
  pub made : after.made ≡ before.made + 1
  pub some : after.some ≡ (before.some || is_told before.window before.made what)
  pub piece : IsPiece before.window before.made before.some what before.device after.device

-- steps one by one
abbrev pub ReasonsEach : Spot → List (Pick × Outcome) → Spot → Type 0
ReasonsEach before steps after =
    (pick : Pick) × (what : Outcome) × (steps ≡ (pick, what) ∷ []) × ReasonsOne before pick what after
