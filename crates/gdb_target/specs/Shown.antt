-- What gdb is shown of a core.
use Rattle.std.specs.Prelude.{◌≡◌, ℕ, ◌==◌, if◌then◌else◌, List, Option, None, fold, length, unwrap_or}
use Rattle.std.specs.FinSet as set
use Rattle.tm_model.specs.declared.outcome.Outcome.{Outcome}
use Rattle.tm_core.specs.Theorem.{view_at}
use Rattle.tm_hist.specs.Board.{ShownBoard}
use Rattle.tm_hist.specs.Lines.{status_of}
use Rattle.tm_hist.specs.Machine.{shown_regs, shown_state}
use Rattle.gdb_target.specs.declared.shown.CoreShown.{CoreShown}

-- the status of a step that is an abort of this core
abbrev pub own_status : ℕ → ℕ × Outcome → Option ℕ
own_status core step = if step.0 == core then status_of step.1 else None

-- the status of a core's last abort, and 0 before its first
abbrev pub last_status : ℕ → List (ℕ × Outcome) → ℕ
last_status core history = fold (λ status step. unwrap_or (own_status core step) status) 0 history

-- the core of this number of a board
pub record IsShown (board : ShownBoard) (core : ℕ) (shown : CoreShown) : Type 0 where
  pub regs : shown.regs ≡ shown_regs board.machine core
  pub state : shown.state ≡ shown_state board.machine core
  pub reads : shown.reads ≡ set.len (view_at board.machine core).reads
  pub writes : shown.writes ≡ set.len (view_at board.machine core).writes
  pub status : shown.status ≡ last_status core board.history
  pub step : shown.step ≡ length board.history
