use Rattle.std.proofs.Common.{◌≡◌, ◌++◌, ◌<◌, List, length}
use Rattle.std.specs.Prelude.{reverse}
use Rattle.tm_model.specs.declared.outcome.Pick.{Pick}
use Rattle.tm_outcomes.specs.Nodes.{IsTree, schedule_at}
use Rattle.tm_outcomes.specs.declared.trial.Trial.{Trial}
use Rattle.tm_outcomes.proofs.nodes.schedule_of.Given as goal

abbrev pub invariant-steps : goal.invariant-steps
invariant-steps l = record {
  within : l.at < length l.nodes;
  so_far : (trial : Trial) (schedules : List (List Pick)) → IsTree trial l.nodes schedules
      → schedule_at schedules l.index ≡ schedule_at schedules l.at ++ reverse l.picks.items;
}

abbrev pub decreases-steps : goal.decreases-steps
decreases-steps l = l.at
