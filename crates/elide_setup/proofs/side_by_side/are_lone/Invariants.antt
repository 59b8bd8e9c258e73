use Rattle.std.proofs.Common.{◌≡◌, ◌≤◌, ◌-◌, length, replicate, take, true}
use Rattle.elide_setup.specs.Schedules.{lone_pick}
use Rattle.elide_setup.proofs.side_by_side.are_lone.Given as goal

abbrev pub invariant-loop-index : goal.invariant-loop-index
invariant-loop-index l = record {
  alike : l.alone ≡ true → take l.index l.steps ≡ replicate l.index (lone_pick l.core);
  most : l.index ≤ length l.steps;
}

abbrev pub decreases-loop-index : goal.decreases-loop-index
decreases-loop-index l = length l.steps - l.index
