use Rattle.std.proofs.Common.{length}
use Rattle.elide_advice.proofs.near.+before_back.Given as goal

abbrev pub decreases-before_back : goal.decreases-before_back
decreases-before_back l = length l.word.now
