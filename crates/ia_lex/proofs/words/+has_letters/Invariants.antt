use Rattle.std.proofs.Common.{length}
use Rattle.ia_lex.proofs.words.+has_letters.Given as goal

abbrev pub decreases-has_letters : goal.decreases-has_letters
decreases-has_letters l = length l.name.now
