use Rattle.std.proofs.Common.{◌≡◌, ◌≤◌, ◌-◌, length, replicate, take}
use Rattle.elide_setup.specs.Schedules.{lone_pick}
use Rattle.elide_setup.proofs.side_by_side.lone_chunks.Given as goal

abbrev pub invariant-loop-count : goal.invariant-loop-count
invariant-loop-count l = record {
  alike : take l.count l.steps ≡ replicate l.count (lone_pick l.core);
  most : l.count ≤ length l.steps;
}

abbrev pub decreases-loop-count : goal.decreases-loop-count
decreases-loop-count l = length l.steps - l.count
