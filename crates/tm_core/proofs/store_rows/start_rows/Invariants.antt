use Rattle.std.proofs.Common.{◌≡◌, ◌<◌, ℕ, get_or, length}
use Rattle.std.specs.Prelude.{Vec}
use Rattle.tm_core.specs.Buffered.{IsEmptyRow}
use Rattle.tm_core.specs.Types.{Store}
use Rattle.tm_core.proofs.store_rows.start_rows.Given as goal

-- the rows so far are empty, each with its room
abbrev pub invariant-loop-core : goal.invariant-loop-core
invariant-loop-core l = record {
  len : length l.rows.items ≡ l._core;
  each : (i : ℕ) (other : Vec Store _) → i < l._core → IsEmptyRow l.most (get_or l.rows.items i other);
}
