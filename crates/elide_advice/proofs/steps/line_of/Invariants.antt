use Rattle.std.proofs.Common.{length, ◌-◌, ◌≤◌}
use Rattle.elide_advice.proofs.steps.line_of.Given as goal

abbrev pub invariant-lines : goal.invariant-lines
invariant-lines l = l.place ≤ length l.text

abbrev pub decreases-lines : goal.decreases-lines
decreases-lines l = length l.text - l.place
