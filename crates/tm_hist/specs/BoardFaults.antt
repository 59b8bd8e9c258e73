-- The numbers of a board's faults.
use Rattle.std.specs.Prelude.{ℕ}
use Rattle.tm_hist.specs.declared.board.BoardFault.{BoardFault}
use Rattle.tm_hist.specs.declared.board.BoardFault.TheVariants as board
use Rattle.tm_hist.specs.declared.board.StepFault.{StepFault}
use Rattle.tm_hist.specs.declared.board.StepFault.TheVariants as step

abbrev pub board_code : BoardFault → ℕ
board_code board.BadLimit = 55
board_code board.BadLimits = 40
board_code (board.NoMachine memory) = 41
board_code (board.NoMemory memory) = 51

abbrev pub step_code : StepFault → ℕ
step_code step.NoSuchCore = 42
step_code step.LimitReached = 50
