use Rattle.std.specs.Prelude.{All}
use Rattle.tm_outcomes.specs.Nodes.{IsUsualPick}
use Rattle.tm_outcomes.proofs.cycle.picks_of_lap.Given as goal

abbrev pub invariant-loop-link : goal.invariant-loop-link
invariant-loop-link l = All (IsUsualPick l.task.trial) l.picks.items
