use Rattle.std.proofs.Common.{◌≡◌, ◌++◌, length}
use Rattle.std.specs.Prelude.{reverse}
use Rattle.tm_outcomes.proofs.nodes.push_reversed.Given as goal

-- those that are left come behind those that were added
abbrev pub invariant-steps : goal.invariant-steps
invariant-steps l = l.picks.items ++ reverse l.left ≡ l.initial.picks.items ++ reverse l.steps

abbrev pub decreases-steps : goal.decreases-steps
decreases-steps l = length l.left
