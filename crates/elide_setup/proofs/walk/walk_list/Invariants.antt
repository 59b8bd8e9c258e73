use Rattle.std.proofs.Common.{◌≡◌, ◌≤◌, ◌-◌, List, length, take}
use Rattle.tm_model.specs.declared.outcome.Outcome.{Outcome}
use Rattle.tm_model.specs.declared.outcome.Pick.{Pick}
use Rattle.elide_setup.specs.Schedules.{picks_made}
use Rattle.elide_setup.specs.Walks.{Leads}
use Rattle.elide_setup.proofs.walk.walk_list.Given as goal

-- the steps of the list so far were made
abbrev pub invariant-loop-index : goal.invariant-loop-index
invariant-loop-index g l = record {
  most : l.index ≤ length l.steps;
  made : (made : List (Pick × Outcome)) × (picks_made made ≡ take l.index l.steps)
      × Leads g.S.StepMaker.takes l.initial.maker made l.maker;
}

abbrev pub decreases-loop-index : goal.decreases-loop-index
decreases-loop-index g l = length l.steps - l.index
