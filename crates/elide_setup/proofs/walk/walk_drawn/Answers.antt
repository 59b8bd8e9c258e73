use Rattle.std.proofs.Common.{◌≡◌, ◌∙◌, [], sym, true}
use Rattle.elide_setup.proofs.Drawing.{come_drained}
use Rattle.elide_setup.specs.Drawing.{at_first, has_own_drains}
use Rattle.elide_setup.proofs.walk.walk_drawn.Goals as goal

-- drains come besides
pub walk_picked-requires-clause-begun : goal.walk_picked-requires-clause-begun
walk_picked-requires-clause-begun g c =
    let source = c.new-source in
    let own : has_own_drains c.args.drawn ≡ true = sym c.has_own_drains.ensures ∙ c.if-has_own_drains.true in
    (own, source.ensures.events, at_first source.result.drains source.ensures.drains)

pub walk_picked-requires-clause-none : goal.walk_picked-requires-clause-none
walk_picked-requires-clause-none g c =
    let source = c.new-source in
    let own : has_own_drains c.args.drawn ≡ true = sym c.has_own_drains.ensures ∙ c.if-has_own_drains.true in
    come_drained c.args.drawn source.result.drains [] own (at_first source.result.drains source.ensures.drains)
