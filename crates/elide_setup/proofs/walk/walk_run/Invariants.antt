use Rattle.std.proofs.Common.{◌≡◌, ◌≤◌, ◌-◌, List, replicate}
use Rattle.tm_model.specs.declared.outcome.Outcome.{Outcome}
use Rattle.tm_model.specs.declared.outcome.Pick.{Pick}
use Rattle.elide_setup.specs.Schedules.{lone_pick, picks_made}
use Rattle.elide_setup.specs.Walks.{Leads}
use Rattle.elide_setup.proofs.walk.walk_run.Given as goal

-- so many steps were made
abbrev pub invariant-loop-done : goal.invariant-loop-done
invariant-loop-done g l = record {
  most : l.done ≤ l.fn.count;
  made : (made : List (Pick × Outcome)) × (picks_made made ≡ replicate l.done (lone_pick l.fn.core))
      × Leads g.S.StepMaker.takes l.initial.maker made l.maker;
}

abbrev pub decreases-loop-done : goal.decreases-loop-done
decreases-loop-done g l = l.fn.count - l.done
