use Rattle.std.proofs.Common.{List, sym, ◌∙◌, subst}
use Rattle.std.proofs.lemmas.Bool.{false≢true}
use Rattle.tm_model.specs.declared.outcome.Pick.{Pick}
use Rattle.tm_outcomes.specs.Nodes.{schedule_at}
use Rattle.tm_outcomes.proofs.Benches.{place_more}
use Rattle.tm_outcomes.proofs.Rounds.{IsFair, goes_round}
use Rattle.tm_outcomes.proofs.cycle.round_of.Goals as goal

pub make_all-requires-clause-at : goal.make_all-requires-clause-at
make_all-requires-clause-at c =
    let schedules = c.requires.nodes.tree.0 in
    (schedule_at schedules c.args.first, c.in_ok-place_of-2.ensures.ok schedules c.requires.nodes.tree.1)

pub is_alike-requires-clause-memory : goal.is_alike-requires-clause-memory
is_alike-requires-clause-memory c = c.in_ok-steps.ensures.place.memory

pub is_alike-requires-clause-others : goal.is_alike-requires-clause-others
is_alike-requires-clause-others c =
    let made = c.in_ok-steps.ensures in
    (place_more c.args.task.now.trial c.args.bench.now.noted c.make_all.new.noted made.keeps c.place_of.new.place
    c.in_ok-place_of.ensures.place).memory

pub returns-clause-ok : goal.returns-clause-ok
returns-clause-ok c = λ schedules tree.
    let made = c.in_ok-steps.ensures in
    let other = c.place_of.new.place in
    goes_round c.args.task.now.trial schedules c.args.first c.make_all.new.here other c.in_ok-steps.steps.items
    (c.in_ok-place_of.ensures.ok schedules tree)
    (made.at (schedule_at schedules c.args.first) (c.in_ok-place_of-2.ensures.ok schedules tree))
    made.are_picks made.usual
    (c.is_alike.ensures.0 c.if-not-is_alike.false)
    (subst (λ (steps : List Pick). IsFair other steps) c.as_slice-2.ensures.value
    (c.is_fair.ensures c.if-not-is_fair.false))
    (λ now stands ended. false≢true (sym c.if-has_ended.false ∙ (c.has_ended.ensures now stands).1 ended))
