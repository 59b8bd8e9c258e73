use Rattle.std.proofs.Common.{◌<◌, ◌∙◌, length, sym, ap, arith}
use Rattle.tm_outcomes.specs.Unseen.{drains}
use Rattle.tm_outcomes.proofs.place.Place.is_quiet.Goals as goal

pub returns-then-not-drains : goal.returns-then-not-drains
returns-then-not-drains c = λ is now stands.
    let pick = c.args.pick in
    let below : pick.core < length c.args.self.now.machine.views =
    (let count = c.requires.place.count in let is_core = c.requires.core in omega arith) in (
      ap (drains pick.event) (sym (stands.same_pending pick.core below))
          ∙ (sym c.drains.ensures ∙ c.if-not-drains.true),
      sym (c.is_unseen.ensures now stands) ∙ is,
    )
