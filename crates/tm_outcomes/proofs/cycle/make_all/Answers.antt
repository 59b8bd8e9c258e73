use Rattle.std.proofs.Common.{List, ◌++◌, sym, subst}
use Rattle.tm_model.specs.declared.outcome.Pick.{Pick}
use Rattle.tm_outcomes.specs.Searching.{IsMade}
use Rattle.tm_outcomes.proofs.Rounds.{made_none, made_then}
use Rattle.tm_outcomes.proofs.cycle.make_all.Goals as goal

pub loop-pick-init : goal.loop-pick-init
loop-pick-init c =
    let place = c.args.here.now in
    let written = c.args.noted.now in
    subst (λ (s : List Pick). IsMade c.args.task.now.trial place place written written s)
    (sym c.new-steps.ensures.items)
    (made_none c.args.task.now.trial place written c.requires.place)

pub make-requires-clause-place : goal.make-requires-clause-place
make-requires-clause-place c = c.loop-pick.invariant.place

pub make-requires-clause-at : goal.make-requires-clause-at
make-requires-clause-at c =
    let schedule : List Pick = c.requires.at.0 in
    (schedule ++ c.loop-pick.steps.items, c.loop-pick.invariant.at schedule c.requires.at.1)

pub loop-pick-preserved : goal.loop-pick-preserved
loop-pick-preserved c =
    let added = c.in_ok-make.ensures in
    made_then c.args.task.now.trial c.args.here.now c.loop-pick.here c.make.new.here c.args.noted.now c.loop-pick.noted
    c.make.new.noted
    c.loop-pick.steps.items added.0 c.make.new.steps.items added.1 c.loop-pick.invariant added.2
