use Rattle.std.proofs.Common.{length}
use Rattle.elide_setup.proofs.shown.+show_values.Given as goal

abbrev pub decreases-show_values : goal.decreases-show_values
decreases-show_values g l = length l.sums.now
