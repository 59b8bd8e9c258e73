use Rattle.std.proofs.Common.{◌≡◌, ◌+◌, ◌++◌}
use Rattle.tm_work.specs.Late.{drains_alone}
use Rattle.tm_work.proofs.desk_state.DeskState.drain.Given as goal

-- so many were made
abbrev pub invariant-loop-drained : goal.invariant-loop-drained
invariant-loop-drained g l = record {
  history : l.self.0.history ≡ l.initial.self.0.history ++ drains_alone l.initial.seat.core l.drained;
  core : l.seat.core ≡ l.initial.seat.core;
  steps : l.seat.progress.steps ≡ l.initial.seat.progress.steps + l.drained;
  ended : l.seat.progress.ended ≡ l.initial.seat.progress.ended;
}
