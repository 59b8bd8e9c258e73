use Rattle.std.proofs.Common.{length}
use Rattle.tm_gdb.proofs.points.+add_sights.Given as goal

abbrev pub decreases-add_sights : goal.decreases-add_sights
decreases-add_sights l = length l.spans.now
