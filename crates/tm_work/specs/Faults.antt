-- What a fault of the work holds.
use Rattle.std.specs.Prelude.{◌≡◌, ℕ, List}
use Rattle.tm_hist.specs.Board.{ShownBoard}
use Rattle.tm_work.specs.Workers.{IsRefused}
use Rattle.tm_work.specs.declared.fault.WorkFault.{WorkFault}
use Rattle.tm_work.specs.declared.fault.WorkFault.TheVariants.{NoMemory, SpawnRefused}

abbrev pub work_number : WorkFault → ℕ
work_number (SpawnRefused core board) = 60
work_number (NoMemory board) = 61

-- the board that it gives back
abbrev pub board_in : WorkFault → ShownBoard
board_in (SpawnRefused core board) = board
board_in (NoMemory board) = board

abbrev pub IsNoMemory : WorkFault → Type 0
IsNoMemory (SpawnRefused core board) = ⊥
IsNoMemory (NoMemory board) = Unit {0}

-- the workers of the cores below one ran, and those above it did nothing; or nothing was stepped
abbrev pub IsFault : ShownBoard → List ℕ → WorkFault → Type 0
IsFault given budgets (SpawnRefused core board) = IsRefused given budgets core board
IsFault given budgets (NoMemory board) = board ≡ given
