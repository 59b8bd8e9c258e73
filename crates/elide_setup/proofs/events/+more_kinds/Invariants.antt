use Rattle.std.proofs.Common.{length}
use Rattle.elide_setup.proofs.events.+more_kinds.Given as goal

abbrev pub decreases-more_kinds : goal.decreases-more_kinds
decreases-more_kinds l = length l.text.now
