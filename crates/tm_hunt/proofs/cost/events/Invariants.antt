use Rattle.std.proofs.Common.{◌≡◌, ◌+◌, ◌≤◌, length}
use Rattle.tm_hunt.specs.Cost.{events_in}
use Rattle.tm_hunt.proofs.cost.events.Given as goal

abbrev pub invariant-steps : goal.invariant-steps
invariant-steps l = record {
  total : l.count + events_in l.left ≡ events_in l.steps;
  few : l.count + length l.left ≤ length l.steps;
}

abbrev pub decreases-steps : goal.decreases-steps
decreases-steps l = length l.left
