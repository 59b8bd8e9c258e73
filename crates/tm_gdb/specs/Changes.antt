-- What a call does to a target that may want memory, and what a step wants of a board.
use Rattle.std.specs.Prelude.{◌≡◌, ℕ, ◌<◌, length, OnErr, OnOk, Result}
use Rattle.tm_hist.specs.Board.{IsFull, SameBoard, ShownBoard}
use Rattle.tm_gdb.specs.declared.target.Target.{Target}
use Rattle.tm_gdb.specs.Values.{TargetValue, value_of}

-- the target was changed so, or stays as it was where memory was refused; its board keeps its program and its limits
pub record DoesOrStays {T E : Type 0} (does : TargetValue → TargetValue → Type 0) (old new : Target)
    (result : Result T E) : Type 0 where
  pub ok : OnOk result (does (value_of old) (value_of new))
  pub err : OnErr result (value_of new ≡ value_of old)
  pub same : SameBoard old.board new.board

-- a board has a core of this number
pub record HasCore (board : ShownBoard) (core : ℕ) : Type 0 where
  pub view : core < length board.machine.views
  pub entry : core < length board.program.entries
  pub few : core < 64

-- a board has a core of this number, and room for a step of it
pub record CanMake (board : ShownBoard) (core : ℕ) : Type 0 where
  pub exists : core < length board.program.entries
  pub room : IsFull board → ⊥
