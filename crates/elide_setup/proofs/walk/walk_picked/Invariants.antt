use Rattle.std.proofs.Common.{List}
use Rattle.std.specs.Prelude.{is_some, not}
use Rattle.tm_model.specs.declared.outcome.Outcome.{Outcome}
use Rattle.tm_model.specs.declared.outcome.Pick.{Pick}
use Rattle.elide_setup.specs.Drawing.{ComeAs}
use Rattle.elide_setup.specs.Schedules.{picks_made}
use Rattle.elide_setup.specs.Walks.{Leads}
use Rattle.elide_setup.proofs.Rounds.{IsUnderWay}
use Rattle.elide_setup.proofs.walk.walk_picked.Given as goal

-- some steps were made and kept
abbrev pub invariant-loop-number : goal.invariant-loop-number
invariant-loop-number g l =
    (steps : List (Pick × Outcome)) × ComeAs l.fn.drawn (picks_made steps)
    × Leads g.S.StepMaker.takes l.initial.maker steps l.maker
    × Leads g.K.Keeper.keeps l.initial.keeper steps l.keeper
    × IsUnderWay (not (is_some l.fn.drawn.seed)) l.fn.cores l.number l.going (g.Q.PickSource.turn l.source) steps
    × g.Q.PickSource.is_behind l.fn.drawn (picks_made steps) l.source
