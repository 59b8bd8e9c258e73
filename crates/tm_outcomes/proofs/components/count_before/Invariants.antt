use Rattle.std.proofs.Common.{length}
use Rattle.tm_outcomes.proofs.components.count_before.Given as goal

abbrev pub decreases-waiting : goal.decreases-waiting
decreases-waiting l = length l.left
