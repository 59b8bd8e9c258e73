use Rattle.std.proofs.Common.{take}
use Rattle.std.specs.List.{AllZip}
use Rattle.elide_stats.specs.Rows.{IsLineRow}
use Rattle.elide_stats.proofs.report.lines_of.Given as goal

-- the rows so far
abbrev pub invariant-loop-index : goal.invariant-loop-index
invariant-loop-index l = AllZip IsLineRow (take l.index l.conflicts.lines.entries) l.rows.items
