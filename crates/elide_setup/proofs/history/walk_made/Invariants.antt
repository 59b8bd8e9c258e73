use Rattle.std.proofs.Common.{◌≡◌, List, take}
use Rattle.elide_setup.specs.Schedules.{picks_made}
use Rattle.elide_setup.specs.Walks.{Leads}
use Rattle.tm_model.specs.Runs.{picks_of}
use Rattle.tm_model.specs.declared.outcome.Outcome.{Outcome}
use Rattle.tm_model.specs.declared.outcome.Pick.{Pick}
use Rattle.elide_setup.proofs.history.walk_made.Given as goal

-- the steps of the picks so far were made
abbrev pub invariant-loop-index : goal.invariant-loop-index
invariant-loop-index g l =
    (made : List (Pick × Outcome)) × (picks_made made ≡ take l.index (picks_of l.board.history))
    × Leads g.S.StepMaker.takes l.initial.maker made l.maker
