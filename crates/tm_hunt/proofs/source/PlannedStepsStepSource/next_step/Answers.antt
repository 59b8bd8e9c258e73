use Rattle.std.proofs.Common.{subst}
use Rattle.tm_pick.specs.Kinds.{IsOfKinds}
use Rattle.tm_pick.specs.Lots.{kinds_drawn}
use Rattle.tm_pick.specs.Sources.{both_kinds}
use Rattle.tm_hunt.specs.Sources.{PlannedPicks}
use Rattle.tm_hunt.proofs.source.PlannedStepsStepSource.next_step.Goals as goal

pub returns-clause-event : goal.returns-clause-event
returns-clause-event c =
    subst (λ (s : PlannedPicks). IsOfKinds (both_kinds s.picks.kinds (kinds_drawn s.drains)) c.befall.result)
    c.self.view_is (c.befall.ensures.kinds c.self.inside.picker.kinds c.next_step-picked.ensures.event)
