use Rattle.std.proofs.Common.{take}
use Rattle.std.specs.Prelude.{sum}
use Rattle.elide_stats.specs.Rows.{IsSum}
use Rattle.elide_stats.proofs.report.open_steps.Given as goal

abbrev pub invariant-loop-core : goal.invariant-loop-core
invariant-loop-core l = IsSum (sum (take l.core l.under_way)) l.steps
