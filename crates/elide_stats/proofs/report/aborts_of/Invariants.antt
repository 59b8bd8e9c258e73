use Rattle.std.proofs.Common.{take}
use Rattle.std.specs.List.{AllZip}
use Rattle.elide_stats.specs.Rows.{IsAbortRow}
use Rattle.elide_stats.proofs.report.aborts_of.Given as goal

-- the rows so far
abbrev pub invariant-loop-index : goal.invariant-loop-index
invariant-loop-index l = AllZip IsAbortRow (take l.index l.causes.entries) l.rows.items
