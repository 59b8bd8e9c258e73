use Rattle.std.proofs.Common.{◌≡◌, ℕ, ◌<◌, Some}
use Rattle.tm_hist.specs.Board.{stop_shown}
use Rattle.tm_hist.specs.Machine.{shown_state}
use Rattle.tm_check.proofs.check.stops_by.Given as goal

abbrev pub invariant-loop-core : goal.invariant-loop-core
invariant-loop-core l = (core : ℕ) → core < l.core → ¬ (stop_shown (shown_state l.board.machine core) ≡ Some l.why)
