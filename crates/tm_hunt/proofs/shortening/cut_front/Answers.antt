use Rattle.std.proofs.Common.{◌∙◌, List, subst, sym}
use Rattle.tm_model.specs.declared.outcome.Pick.{Pick}
use Rattle.tm_hunt.specs.Kept.{KeepsKinds}
use Rattle.tm_hunt.proofs.Shortenings.{simplifies_by}
use Rattle.tm_hunt.proofs.shortening.cut_front.Goals as goal

pub returns-clause-simpler : goal.returns-clause-simpler
returns-clause-simpler c =
    simplifies_by _ _ _ _ _
    (subst (λ (steps : List Pick). KeepsKinds c.args.best.now.picks.items steps)
    (sym (c.in_ok-steps.ensures.items ∙ c.as_slice.ensures.value)) (λ kinds h. h))
    c.shorten.ensures.shorter
