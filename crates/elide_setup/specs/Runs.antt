-- A machine, or a board, that was run from a program's first state.
use Rattle.std.specs.Prelude.{◌≡◌, ℕ, List, [], ◌∷◌, ◌++◌, Option, Some, None, length}
use Rattle.tm_model.specs.Runs.{doomed_at_end}
use Rattle.tm_model.specs.Steps.{run}
use Rattle.elide_setup.specs.Owing.{AreOwedUnder, history_made}
use Rattle.tm_model.specs.declared.outcome.Outcome.{Outcome}
use Rattle.tm_model.specs.declared.outcome.Pick.{Pick}
use Rattle.ia_image.specs.Program.{ProgramValue as Program}
use Rattle.tm_core.specs.declared.limits.Limits.{Limits}
use Rattle.tm_core.specs.Theorem.{IsRun, SameMachine, ShownMachine as Machine, StandsFor, machine_setting}
use Rattle.tm_hist.specs.Board.{IsHistory, SameBoard, ShownBoard as Board, board_setting}
use Rattle.tm_model.specs.Setting.{program_setting}
use Rattle.tm_model.specs.State.{State, opening_state}

-- steps by picks: whatever run the machine was of, it is of that run with these steps behind it, and each outcome is
-- the one that is owed under its pick's event
pub record AreMachineSteps (before : Machine) (steps : List (Pick × Outcome)) (after : Machine) : Type 0 where
  pub same : SameMachine before after
  pub goes_on :
      (start : Machine) (state : State) (doomed : ℕ → Option ℕ) (history : List (ℕ × Outcome)) →
      IsRun start before state doomed history → IsRun start after state doomed (history ++ history_made steps)
  pub under :
      (state : State) (doomed : ℕ → Option ℕ) → StandsFor before state doomed →
      AreOwedUnder (machine_setting before) state doomed steps

-- one step
abbrev pub IsMachineStep : Machine → Pick → Outcome → Machine → Type 0
IsMachineStep before pick outcome after = AreMachineSteps before ((pick, outcome) ∷ []) after

-- the steps, each a pick and its outcome, are a run by the rules from the program's opening state, each outcome the one
-- that is owed under its pick's event, and the machine stands for its end
pub record IsRunOf (program : Program) (limits : Limits) (steps : List (Pick × Outcome)) (machine : Machine)
    : Type 0 where
  pub start : Machine
  pub rules : machine_setting start ≡ program_setting program limits.read_lines limits.write_lines limits.stores
  pub cores : length start.views ≡ length program.entries
  pub is_run : IsRun start machine (opening_state program) (λ _. None) (history_made steps)
  pub under : AreOwedUnder (machine_setting start) (opening_state program) (λ _. None) steps

-- the same of steps of a board, with which its history goes on
pub record AreBoardSteps (before : Board) (steps : List (Pick × Outcome)) (after : Board) : Type 0 where
  pub same : SameBoard before after
  pub history : after.history ≡ before.history ++ history_made steps
  pub under :
      (end : State) → run (board_setting before) (opening_state before.program) before.history ≡ Some end →
      AreOwedUnder (board_setting before) end
      (doomed_at_end (board_setting before) (opening_state before.program) (λ _. None) before.history) steps
  pub was : IsHistory before

-- the board's history is that of these steps, each a pick and its outcome, and each outcome is owed under its pick's
-- event
pub record HasMade (board : Board) (steps : List (Pick × Outcome)) : Type 0 where
  pub history : board.history ≡ history_made steps
  pub under : AreOwedUnder (board_setting board) (opening_state board.program) (λ _. None) steps
