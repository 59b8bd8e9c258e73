use Rattle.std.proofs.Common.{◌∙◌, List, subst, sym}
use Rattle.tm_model.specs.declared.outcome.Pick.{Pick}
use Rattle.tm_hunt.specs.Kept.{KeepsKinds}
use Rattle.tm_hunt.proofs.KeptKinds.{keeps_front}
use Rattle.tm_hunt.proofs.Shortenings.{simplifies_by}
use Rattle.tm_hunt.proofs.shortening.Front.try_earlier.Goals as goal

pub returns-in_err-_fails-clause-simpler : goal.returns-in_err-_fails-clause-simpler
returns-in_err-_fails-clause-simpler c =
    simplifies_by _ _ _ _ _
    (subst (λ (steps : List Pick). KeepsKinds c.args.best.now.picks.items steps)
    (sym (c.in_ok-self.ensures.items ∙ c.deciding.ensures))
    (keeps_front c.args.best.now.picks.items c.args.best.now.front))
    c.try_steps.ensures.shorter

pub returns-clause-simpler : goal.returns-clause-simpler
returns-clause-simpler c =
    simplifies_by _ _ _ _ _
    (subst (λ (steps : List Pick). KeepsKinds c.args.best.now.picks.items steps)
    (sym (c.in_ok-self.ensures.items ∙ c.deciding.ensures))
    (keeps_front c.args.best.now.picks.items c.args.best.now.front))
    c.try_steps.ensures.shorter
