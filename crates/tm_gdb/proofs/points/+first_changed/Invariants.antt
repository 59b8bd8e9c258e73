use Rattle.std.proofs.Common.{length}
use Rattle.tm_gdb.proofs.points.+first_changed.Given as goal

abbrev pub decreases-first_changed : goal.decreases-first_changed
decreases-first_changed l = length l.sights.now
