use Rattle.std.proofs.Common.{length}
use Rattle.ia_source.proofs.operand.+more_operands.Given as goal

abbrev pub decreases-more_operands : goal.decreases-more_operands
decreases-more_operands l = length l.tokens.now
