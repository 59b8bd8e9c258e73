-- A board after the first steps of another one's history.
use Rattle.std.specs.Prelude.{◌≡◌, ℕ, take}
use Rattle.tm_hist.specs.Board.{SameBoard, ShownBoard as Board}

-- the same program and limits, and the first so many steps, or all where there are fewer
pub record IsFirst (board : Board) (count : ℕ) (first : Board) : Type 0 where
  pub same : SameBoard board first
  pub history : first.history ≡ take count board.history
