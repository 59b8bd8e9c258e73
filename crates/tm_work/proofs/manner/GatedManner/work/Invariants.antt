use Rattle.std.proofs.Common.{◌≡◌}
use Rattle.tm_work.proofs.manner.GatedManner.work.Given as goal

abbrev pub invariant-loop-done : goal.invariant-loop-done
invariant-loop-done g l = record {
  steps : l.seat.progress.steps ≡ l.done;
  core : l.seat.core ≡ l.initial.seat.core;
}
