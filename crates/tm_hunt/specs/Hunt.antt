-- What a search for a failing schedule comes to.
use Rattle.std.specs.Prelude.{◌≡◌, ◌⊎◌, ℕ, List}
use Rattle.tm_model.specs.declared.outcome.Pick.{Pick}
use Rattle.tm_model.specs.Runs.{picks_of}
use Rattle.tm_hist.specs.Board.{IsFull, IsHistory, ShownBoard as Board}
use Rattle.tm_check.specs.Checks.{HasEnded, IsViolatedAt}
use Rattle.tm_hunt.specs.declared.trial.Trial.{Trial}

-- a board of what is tried: its program, its limits, and at most so many steps
pub record IsTrialOf (trial : Trial) (board : Board) : Type 0 where
  pub program : board.program ≡ trial.program.now
  pub limits : board.limits ≡ trial.limits
  pub most : board.limit ≡ trial.most

-- the board after exactly these steps from the program's opening state: the events are those that aborted a
-- transaction, and drains
pub record RunsTo (trial : Trial) (picks : List Pick) (board : Board) : Type 0 where
  pub of_trial : IsTrialOf trial board
  pub steps : picks_of board.history ≡ picks
  pub is_run : IsHistory board

-- the run of this schedule violates the check with this index
pub record Fails (trial : Trial) (picks : List Pick) (check : ℕ) : Type 0 where
  pub board : Board
  pub run : RunsTo trial picks board
  pub violates : IsViolatedAt board trial.checks.now check

-- some check is violated
abbrev pub SomeViolated : Trial → Board → Type 0
SomeViolated trial board = (index : ℕ) × IsViolatedAt board trial.checks.now index

-- a run goes on until each core has stopped, the limit is reached, or a check is violated
abbrev pub IsOver : Trial → Board → Type 0
IsOver trial board = (HasEnded board ⊎ IsFull board) ⊎ SomeViolated trial board
