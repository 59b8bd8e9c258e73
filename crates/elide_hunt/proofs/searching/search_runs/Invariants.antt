use Rattle.std.proofs.Common.{◌-◌}
use Rattle.tm_hunt.specs.Sources.{IsPlannedRun}
use Rattle.elide_hunt.proofs.Shares.{Passed}
use Rattle.elide_hunt.proofs.searching.search_runs.Given as goal

-- the runs below this number were made, and passed
abbrev pub invariant-turns : goal.invariant-turns
invariant-turns g l =
    Passed l.trial (IsPlannedRun l.plan) l.orders.first l.orders.end l.first l.ended l.cut

abbrev pub decreases-turns : goal.decreases-turns
decreases-turns g l = l.orders.end - l.first
