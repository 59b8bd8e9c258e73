use Rattle.std.proofs.Common.{length}
use Rattle.elide_setup.proofs.shown.+show_dumps.Given as goal

abbrev pub decreases-show_dumps : goal.decreases-show_dumps
decreases-show_dumps g l = length l.dumps.now
