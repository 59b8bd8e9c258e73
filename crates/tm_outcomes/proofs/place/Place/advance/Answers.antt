use Rattle.std.proofs.Common.{◌≡◌, List, [], ◌∷◌, ◌++◌, ap, ◌∙◌, subst}
use Rattle.tm_model.specs.declared.outcome.Pick.{Pick}
use Rattle.tm_outcomes.specs.Resting.{RestsBy}
use Rattle.tm_outcomes.proofs.Resting.{advances}
use Rattle.tm_outcomes.proofs.place.Place.advance.Goals as goal

pub returns : goal.returns
returns c =
    let trial = c.args.trial.now in
    let pick = c.args.pick in
    let rested = c.in_ok-come_to_rest.ensures in
    let one : c.push.new.self.items ≡ pick ∷ [] =
    c.in_ok-push.ensures.items ∙ ap (λ (s : List Pick). s ++ pick ∷ []) c.new-steps.ensures.items in
    advances trial c.args.self.now c.step.new.self c.come_to_rest.new.self pick
    c.come_to_rest.new.steps.items c.requires.pick
    c.step.ensures.goes c.step.ensures.at
    (subst (λ (s : List Pick). RestsBy trial c.step.new.self c.come_to_rest.new.self s c.come_to_rest.new.steps.items)
    one rested.rests)
    rested.place
