use Rattle.std.proofs.Common.{take}
use Rattle.std.specs.Prelude.{sum_by}
use Rattle.elide_stats.specs.Rows.{IsSum, lost_of_place}
use Rattle.elide_stats.proofs.report.lost_steps.Given as goal

abbrev pub invariant-loop-index : goal.invariant-loop-index
invariant-loop-index l = IsSum (sum_by lost_of_place (take l.index l.places.entries)) l.steps
