use Rattle.std.proofs.Common.{length}
use Rattle.ia_source.proofs.memory.+memory.Given as goal

abbrev pub decreases-behind_piece : goal.decreases-behind_piece
decreases-behind_piece l = length l.tokens.now

abbrev pub decreases-behind_sign : goal.decreases-behind_sign
decreases-behind_sign l = length l.tokens.now
