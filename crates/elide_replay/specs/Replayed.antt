-- The board of a schedule.
use Rattle.std.specs.Prelude.{◌≡◌}
use Rattle.tm_hist.specs.Board.{ShownBoard as Board}
use Rattle.elide_setup.specs.declared.machine.Setup.{Setup}

-- the board is of this program and these limits
pub record IsBoardOf (setup : Setup) (board : Board) : Type 0 where
  pub program : board.program ≡ setup.program
  pub limits : board.limits ≡ setup.limits
