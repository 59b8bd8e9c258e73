use Rattle.std.proofs.Common.{length}
use Rattle.tm_gdb.proofs.points.+keep_watches.Given as goal

abbrev pub decreases-keep_watches : goal.decreases-keep_watches
decreases-keep_watches l = length l.watches.now
