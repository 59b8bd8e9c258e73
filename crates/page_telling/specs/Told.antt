-- The steps of a run as they stand in a page: a line for each of them, by its own delta (page/README.md, "steps").
use Rattle.std.specs.Prelude.{◌≡◌, ℕ, Bool, true, false, List, [], ◌∷◌, ◌++◌, codes, drop, length, map, if◌then◌else◌}
use Rattle.text_out.specs.Writing.{Device, Wrote}
use Rattle.tm_model.specs.declared.outcome.Outcome.{Outcome}
use Rattle.tm_model.specs.declared.outcome.Pick.{Pick}
use Rattle.elide_setup.specs.Runs.{IsMachineStep, IsRunOf}
use Rattle.elide_setup.specs.Schedules.{AreOf}
use Rattle.elide_setup.specs.declared.machine.Setup.{Setup}
use Rattle.tm_core.specs.Theorem.{ShownMachine as Machine, view_at}
use Rattle.tm_page.specs.Difference.{IsTold}
use Rattle.tm_page.specs.Types.{CoreState}
use Rattle.tm_page.specs.declared.delta.PageDelta.{PageDelta}
use Rattle.page_run.specs.Plain.{ArePlain}
use Rattle.page_run.specs.declared.stretch.Stretch.{Stretch}
use Rattle.page_run.specs.declared.window.Window.{Window}
use Rattle.page_steps.specs.Steps.{step_text}

-- ---- a step with its delta

pub record ToldStep : Type 0 where
  pub pick : Pick
  pub outcome : Outcome
  pub before : CoreState  -- what its core did before it
  pub delta : PageDelta

abbrev pub made_of : ToldStep → Pick × Outcome
made_of told = (told.pick, told.outcome)

-- a machine made this step, and this is its delta
pub record IsStepTold (before : Machine) (one : ToldStep) (after : Machine) : Type 0 where
  pub step : IsMachineStep before one.pick one.outcome after
  pub mode : (view_at before one.pick.core).mode ≡ one.before
  pub told : IsTold before after one.pick.core one.outcome one.delta

-- one behind the other, none left out
abbrev pub AreStepsTold : Machine → List ToldStep → Machine → Type 0
AreStepsTold before [] after = before ≡ after
AreStepsTold before (told ∷ others) after =
    (next : Machine) × IsStepTold before told next × AreStepsTold next others after

-- ---- lines

-- what stands before a line, the first or one behind another
abbrev pub line_front : Bool → List ℕ
line_front is_first = if is_first then codes "\n" else codes ",\n"

-- of a step, by its delta and what its core did before it
abbrev pub line_text : Bool → PageDelta → CoreState → List ℕ
line_text is_first delta before = line_front is_first ++ step_text delta before

abbrev pub lines_text : Bool → List ToldStep → List ℕ
lines_text is_first [] = []
lines_text is_first (told ∷ others) = line_text is_first told.delta told.before ++ lines_text false others

-- ---- a run

-- of a run by these picks from the program's first state, the steps up to the last that stands in the page
pub record IsRunTold (setup : Setup) (window : Window) (picks : List Pick) (told : List ToldStep) : Type 0 where
  pub behind : List Pick
  pub all : map (λ one. one.pick) told ++ behind ≡ picks
  pub count : length told ≡ window.to
  pub start : Machine
  pub opens : IsRunOf setup.program setup.limits [] start
  pub last : Machine
  pub chain : AreStepsTold start told last

-- the lines of those that stand in the page were written, between what opens it and the end of their list
pub record AreLinesWritten (stretch : Stretch) (first last : Device) : Type 0 where
  pub picks : List Pick
  pub course : AreOf stretch.course.now picks
  pub total : length picks ≡ stretch.total
  pub told : List ToldStep
  pub run : IsRunTold stretch.setup.now stretch.window picks told
  pub opening : List ℕ
  pub plain : ArePlain (opening ++ (lines_text true (drop stretch.window.from told) ++ codes "]"))
  pub wrote : Wrote first last (opening ++ (lines_text true (drop stretch.window.from told) ++ codes "]"))
