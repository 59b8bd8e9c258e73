use Rattle.std.proofs.Common.{◌≤◌, length}
use Rattle.tm_hist.specs.History.{pairs_of}
use Rattle.tm_gdb.specs.Back.{HasNoneFrom}
use Rattle.tm_gdb.proofs.back.last_own.Given as goal

-- no step from this place on is the core's
abbrev pub invariant-steps : goal.invariant-steps
invariant-steps l = record {
  none : HasNoneFrom l.core (pairs_of l.history) l.place;
  within : l.place ≤ length (pairs_of l.history);
}

abbrev pub decreases-steps : goal.decreases-steps
decreases-steps l = l.place
