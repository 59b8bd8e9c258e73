use Rattle.std.proofs.Common.{take}
use Rattle.std.specs.List.{AllZip}
use Rattle.elide_stats.specs.Rows.{IsPlaceRow}
use Rattle.elide_stats.proofs.report.places_of.Given as goal

-- the rows so far
abbrev pub invariant-loop-index : goal.invariant-loop-index
invariant-loop-index l = AllZip IsPlaceRow (take l.index l.counts.places.entries) l.rows.items
