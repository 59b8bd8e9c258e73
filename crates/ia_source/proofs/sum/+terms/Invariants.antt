use Rattle.std.proofs.Common.{length}
use Rattle.ia_source.proofs.sum.+terms.Given as goal

abbrev pub decreases-behind_term : goal.decreases-behind_term
decreases-behind_term l = length l.tokens.now

abbrev pub decreases-behind_sign : goal.decreases-behind_sign
decreases-behind_sign l = length l.tokens.now
