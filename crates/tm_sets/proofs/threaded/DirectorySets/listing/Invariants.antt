use Rattle.std.proofs.Common.{◌-◌, length}
use Rattle.tm_sets.specs.DirectoryRows.{rows_of}
use Rattle.tm_sets.proofs.Telling.{Told}
use Rattle.tm_sets.proofs.threaded.DirectorySets.listing.Given as goal

abbrev pub invariant-loop-at : goal.invariant-loop-at
invariant-loop-at l = Told (rows_of l.self) l.core l.kind l.lines.items l.at l.visited

abbrev pub decreases-loop-at : goal.decreases-loop-at
decreases-loop-at l = length l.self.entries.items - l.visited
