use Rattle.std.proofs.Common.{length}
use Rattle.tm_gdb.proofs.points.+keep_breaks.Given as goal

abbrev pub decreases-keep_breaks : goal.decreases-keep_breaks
decreases-keep_breaks l = length l.breaks.now
