-- The numbers of the faults that end a session, and the board that each gives back.
use Rattle.std.specs.Prelude.{ℕ}
use Rattle.tm_hist.specs.Board.{ShownBoard as Board}
use Rattle.tm_debug.specs.declared.session.SessionFault.{SessionFault}
use Rattle.tm_debug.specs.declared.session.SessionFault.TheVariants.{Read, Write, NoMemory}

abbrev pub session_code : SessionFault → ℕ
session_code (Read board) = 76
session_code (Write board) = 77
session_code (NoMemory board) = 78

abbrev pub session_board : SessionFault → Board
session_board (Read board) = board
session_board (Write board) = board
session_board (NoMemory board) = board
