use Rattle.std.proofs.Common.{length}
use Rattle.ia_resolve.proofs.expression.+any_symbol.Given as goal

abbrev pub decreases-any_symbol : goal.decreases-any_symbol
decreases-any_symbol l = length l.terms.now
