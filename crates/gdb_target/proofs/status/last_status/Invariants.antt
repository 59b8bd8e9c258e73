use Rattle.std.proofs.Common.{◌≡◌, ◌≤◌, length, take}
use Rattle.tm_hist.specs.History.{pairs_of}
use Rattle.gdb_target.specs.Shown.{last_status}
use Rattle.gdb_target.proofs.status.last_status.Given as goal

-- no step from this index on is an abort of the core
abbrev pub invariant-steps : goal.invariant-steps
invariant-steps l = record {
  none_since : last_status l.core (pairs_of l.history) ≡ last_status l.core (take l.index (pairs_of l.history));
  within : l.index ≤ length (pairs_of l.history);
}

abbrev pub decreases-steps : goal.decreases-steps
decreases-steps l = l.index
