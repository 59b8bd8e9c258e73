use Rattle.std.proofs.Common.{◌≡◌, ◌+◌, ◌≤◌, length}
use Rattle.tm_hunt.specs.Cost.{switches_behind, switches_of}
use Rattle.tm_hunt.proofs.cost.switches.Given as goal

abbrev pub invariant-steps : goal.invariant-steps
invariant-steps l = record {
  total : l.count + switches_behind l.last l.left ≡ switches_of l.steps;
  few : l.count + length l.left ≤ length l.steps;
}

abbrev pub decreases-steps : goal.decreases-steps
decreases-steps l = length l.left
