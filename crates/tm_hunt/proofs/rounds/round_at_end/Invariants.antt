use Rattle.std.proofs.Common.{length}
use Rattle.tm_hunt.proofs.rounds.round_at_end.Given as goal

abbrev pub decreases-steps : goal.decreases-steps
decreases-steps l = length l.left
