use Rattle.std.proofs.Common.{ℕ, ◌<◌}
use Rattle.tm_hist.specs.Board.{IsStopped}
use Rattle.tm_check.proofs.check.has_ended.Given as goal

abbrev pub invariant-loop-core : goal.invariant-loop-core
invariant-loop-core l = (core : ℕ) → core < l.core → IsStopped l.board core
