-- What a board's history tells of a core's next step.
use Rattle.std.specs.Prelude.{◌≡◌, ⊤, ℕ, List, [], ◌∷◌, Option, Some, length}
use Rattle.std.specs.List.{slice_get}
use Rattle.tm_hist.specs.Board.{IsHistory, ShownBoard as Board}
use Rattle.tm_hist.specs.Back.{IsFirst}
use Rattle.tm_why.specs.Asked.{IsAsked}
use Rattle.tm_why.specs.declared.asked.Asked.{Asked}
use Rattle.tm_why.specs.declared.reason.Reason.{Reason}
use Rattle.tm_why.specs.declared.watch.Watch.{Watch}
use Rattle.tm_why.specs.Watched.{IsWatch, Told, reason_in}

-- the step of the history behind so many earlier ones: what the machine said of it that these made, and what came of it
pub record IsTold (board : Board) (earlier : List Told) (step : Told) : Type 0 where
  pub before : Board
  pub behind : IsFirst board (length earlier) before
  pub law : IsHistory before
  pub asked : IsAsked before.machine step.0.core step.0
  pub made : slice_get board.history (length earlier) ≡ Some (step.0.core, step.1)

-- the first steps of the history, newest first
abbrev pub AreTold : Board → List Told → Type 0
AreTold board [] = ⊤
AreTold board (step ∷ earlier) = IsTold board earlier step × AreTold board earlier

-- a watch was told of the first so many steps
pub record IsWatchOf (board : Board) (count : ℕ) (watch : Watch) : Type 0 where
  pub steps : List Told
  pub many : length steps ≡ count
  pub told : AreTold board steps
  pub kept : IsWatch watch steps
  pub most : watch.stores.most ≡ board.limits.stores

-- why the core's next step is an abort, where it is one: what the machine says of it, and what is known of its
-- transaction behind all steps of the history
pub record IsReasonOf (board : Board) (core : ℕ) (reason : Option Reason) : Type 0 where
  pub steps : List Told
  pub all : length steps ≡ length board.history
  pub told : AreTold board steps
  pub asked : Asked
  pub next : IsAsked board.machine core asked
  pub is : reason ≡ reason_in board.limits.stores asked steps
