use Rattle.std.proofs.Common.{List, ◌∙◌, sym, ap, subst}
use Rattle.tm_model.specs.declared.outcome.Pick.{Pick}
use Rattle.tm_outcomes.specs.Nodes.{steps_along}
use Rattle.tm_outcomes.specs.Places.{IsAt}
use Rattle.tm_outcomes.specs.Written.{IsWithin}
use Rattle.tm_outcomes.proofs.nodes.place_of.Goals as goal

pub way_of-requires-clause-tree : goal.way_of-requires-clause-tree
way_of-requires-clause-tree c = (c.args.task.now.trial, c.requires.nodes.tree)

pub replay-requires-clause-tree : goal.replay-requires-clause-tree
replay-requires-clause-tree c = c.requires.nodes.tree

pub replay-requires-clause-within : goal.replay-requires-clause-within
replay-requires-clause-within c =
    let trial = c.args.task.now.trial in
    let written = c.requires.written in
    subst (λ (s : List Pick). IsWithin trial c.args.written.now.lines.items s)
    (sym (ap (steps_along c.args.nodes.now) c.as_slice.ensures.value
    ∙ c.in_ok-way.ensures.steps trial written.schedules written.tree))
    (written.within c.args.index c.requires.within)

pub returns-clause-ok : goal.returns-clause-ok
returns-clause-ok c = λ schedules tree.
    subst (λ (s : List Pick). IsAt c.args.task.now.trial c.replay.new.self s)
    (ap (steps_along c.args.nodes.now) c.as_slice.ensures.value
    ∙ c.in_ok-way.ensures.steps c.args.task.now.trial schedules tree)
    c.replay.ensures.at
