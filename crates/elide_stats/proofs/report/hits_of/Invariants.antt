use Rattle.std.proofs.Common.{take}
use Rattle.std.specs.List.{AllZip}
use Rattle.elide_stats.specs.Rows.{IsHitRow}
use Rattle.elide_stats.proofs.report.hits_of.Given as goal

-- the rows so far
abbrev pub invariant-loop-index : goal.invariant-loop-index
invariant-loop-index l = AllZip IsHitRow (take l.index l.conflicts.pairs.entries) l.rows.items
