use Rattle.std.proofs.Common.{take}
use Rattle.std.specs.Prelude.{sum_by}
use Rattle.elide_stats.specs.Rows.{IsSum, steps_of_size}
use Rattle.elide_stats.proofs.report.committed_steps.Given as goal

abbrev pub invariant-loop-index : goal.invariant-loop-index
invariant-loop-index l = IsSum (sum_by steps_of_size (take l.index l.lengths.entries)) l.steps
