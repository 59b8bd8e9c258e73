use Rattle.std.proofs.Common.{◌≡◌, ◌+◌, ◌≤◌, length}
use Rattle.tm_hunt.specs.Cycle.{steps_by}
use Rattle.tm_hunt.proofs.rounds.steps_by.Given as goal

abbrev pub invariant-steps : goal.invariant-steps
invariant-steps l = record {
  total : l.count + steps_by l.core l.left ≡ steps_by l.core l.picks;
  few : l.count + length l.left ≤ length l.picks;
}

abbrev pub decreases-steps : goal.decreases-steps
decreases-steps l = length l.left
