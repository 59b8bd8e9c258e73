-- What workers did.
use Rattle.std.specs.Prelude.{◌≡◌, ◌⊎◌, ℕ, ◌+◌, ◌<◌, ◌≤◌, true, List, length, Some, slice_get, slice_index}
use Rattle.tm_hist.specs.Board.{ShownBoard, IsStopped, IsFull, IsHistory}
use Rattle.tm_work.specs.Seats.{SeatProgress, seat_with, no_progress, count, new_part, GoesOn}

-- the seat of this core made as many steps as the budget has, or fewer and ended
pub record IsDone (core_number budget : ℕ) (seat : SeatProgress) : Type 0 where
  pub core : seat.core ≡ core_number
  pub within : seat.progress.steps ≤ budget
  pub used : seat.progress.steps < budget → seat.progress.ended ≡ true

-- the seats of the cores from this one on, which had no turn
pub record AreLeft (seats : List SeatProgress) (from cores : ℕ) : Type 0 where
  pub count : length seats + from ≡ cores
  pub each : (k : ℕ) → k < length seats → slice_get seats k ≡ Some (seat_with (from + k) no_progress)

-- the seats of the first cores, whose workers are done
abbrev pub EachDone : List ℕ → List SeatProgress → Type 0
EachDone budgets done =
    (core : ℕ) (seat : SeatProgress) → slice_get done core ≡ Some seat → IsDone core (slice_index budgets core) seat

-- the steps of a core are those that it has in the new part; at most its budget, and fewer only where it is stopped or
-- the history full
pub record KeepsBudget (given board : ShownBoard) (budget core made : ℕ) : Type 0 where
  pub steps : made ≡ count core (new_part given board)
  pub within : made ≤ budget
  pub used : made < budget → IsStopped board core ⊎ IsFull board

-- what the report of workers that all ran says of the board and of each core's steps
pub record IsReport (given : ShownBoard) (budgets : List ℕ) (board : ShownBoard) (steps : List ℕ) : Type 0 where
  pub goes_on : GoesOn given board
  pub run : IsHistory board
  pub cores : length steps ≡ length budgets
  pub each : (core : ℕ) → core < length budgets
      → KeepsBudget given board (slice_index budgets core) core (slice_index steps core)

-- where this core got no worker
pub record IsRefused (given : ShownBoard) (budgets : List ℕ) (refused : ℕ) (board : ShownBoard) : Type 0 where
  pub goes_on : GoesOn given board
  pub run : IsHistory board
  pub core : refused < length budgets
  pub lower : (other : ℕ) → other < refused
      → KeepsBudget given board (slice_index budgets other) other (count other (new_part given board))
  pub higher : (other : ℕ) → refused < other → other < length budgets → count other (new_part given board) ≡ 0
