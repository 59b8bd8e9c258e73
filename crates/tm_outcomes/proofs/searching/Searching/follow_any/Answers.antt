use Rattle.std.proofs.Common.{◌+◌, ◌∙◌, inl, inr, List, Option, None, Some, ap, subst, sym, take, take_all}
use Rattle.std.proofs.lemmas.List.Elements.{Contains-get_or}
use Rattle.tm_model.specs.declared.outcome.Event.{Event}
use Rattle.tm_outcomes.specs.Following.{AreKnownAt, GoesOnFrom}
use Rattle.tm_outcomes.specs.Outcomes.{IsNoneOrOneOf}
use Rattle.tm_outcomes.specs.Searching.{IsFollowedIn, IsThis}
use Rattle.tm_outcomes.specs.declared.bench.Bench.{Bench}
use Rattle.tm_outcomes.specs.declared.searching.Searching.{Searching}
use Rattle.tm_outcomes.proofs.Following.{goes_on_from}
use Rattle.tm_outcomes.proofs.Grown.{known_still, next_of, none_first, passed_over}
use Rattle.tm_outcomes.proofs.searching.Searching.follow_any.Goals.{then-befalls+in_ok-followed+in-GoesOn-progress}
use Rattle.tm_outcomes.proofs.searching.Searching.follow_any.Goals.{else-befalls}
use Rattle.tm_outcomes.proofs.searching.Searching.follow_any.Goals as goal

pub follow-requires-clause-is_pick : goal.follow-requires-clause-is_pick
follow-requires-clause-is_pick c = record { is_core = c.requires.is_core; allowed = c.requires.allowed None tt }

pub follow-requires-clause-needed : goal.follow-requires-clause-needed
follow-requires-clause-needed c = λ schedules tree. inl (sym c.requires.usual)

pub loop-event-init : goal.loop-event-init
loop-event-init c =
    let trial = c.args.task.now.trial in
    let most = c.args.task.now.most in
    let index = c.args.index in
    let core = c.args.core in
    let before = c.args.self.now in
    let after = c.follow.new.self in
    let first = c.in_ok-first.ensures in
    let alone = first.followed.followed c.in-GoesOn.is in
    record {
      from = goes_on_from trial most index core before after c.args.bench.now c.follow.new.bench (IsThis None)
          c.requires.from alone first.followed.has_bench;
      known = known_still trial most index core before after (IsThis None) c.in_ok-first.first alone
          c.requires.from.tree c.requires.from.within first.known;
      found = first.found;
      followed = none_first trial most index core before after alone;
    }

pub follow-requires-then-befalls-clause-is_pick : goal.follow-requires-then-befalls-clause-is_pick
follow-requires-then-befalls-clause-is_pick c = record {
  is_core = c.requires.is_core;
  allowed = c.requires.allowed (Some _)
      (Contains-get_or c.args.events.now c.loop-event.event-index _ c.loop-event-test.true);
}

pub follow-requires-then-befalls-clause-needed : goal.follow-requires-then-befalls-clause-needed
follow-requires-then-befalls-clause-needed c = λ schedules tree.
    inr (c.loop-event.invariant.known.befallen _ (sym c.befalls.ensures ∙ c.if-befalls.true) schedules tree)

pub loop-event-preserved : goal.loop-event-preserved
loop-event-preserved c =
    let trial = c.args.task.now.trial in
    let most = c.args.task.now.most in
    let index = c.args.index in
    let core = c.args.core in
    let events : List Event = c.args.events.now in
    let at = c.loop-event.event-index in
    let before = c.args.self.now in
    let middle = c.loop-event.self in
    let first = c.in_ok-first.first in
    let so_far = c.loop-event.invariant in
    let Under : Option Event → Type 0 = IsNoneOrOneOf (take (at + 1) events) in
    elim c.if-befalls.branch [
      | then-befalls+in_ok-followed+in-GoesOn-progress w ↦
          let after = w.follow-then-befalls.new.self in
          let left = w.in_ok-followed.ensures.followed in
          let next = left.followed w.in-GoesOn-progress.is in
          record {
            from = subst (λ (s : Searching). GoesOnFrom trial most s c.if-befalls.bench index) (sym w.self-is)
                (subst (λ (b : Bench). GoesOnFrom trial most after b index) (sym w.bench-is)
                (goes_on_from trial most index core middle after c.loop-event.bench w.follow-then-befalls.new.bench
                (IsThis _) so_far.from next left.has_bench));
            known = subst (λ (s : Searching). AreKnownAt trial s.nodes.items index core first) (sym w.self-is)
                (known_still trial most index core middle after (IsThis _) first next so_far.from.tree
                so_far.from.within so_far.known);
            found = ap (λ (s : Searching). s.found) w.self-is ∙ (w.in_ok-followed.ensures.found ∙ so_far.found);
            followed = subst (λ (s : Searching). IsFollowedIn trial most before s index core Under) (sym w.self-is)
                (next_of trial most index core before middle after events at _ c.requires.from.within
                c.loop-event-test.true so_far.followed next);
          }
      | else-befalls w ↦
          record {
            from = subst (λ (s : Searching). GoesOnFrom trial most s c.if-befalls.bench index) (sym w.self-is)
                (subst (λ (b : Bench). GoesOnFrom trial most middle b index) (sym w.bench-is) so_far.from);
            known = subst (λ (s : Searching). AreKnownAt trial s.nodes.items index core first) (sym w.self-is)
                so_far.known;
            found = ap (λ (s : Searching). s.found) w.self-is ∙ so_far.found;
            followed = subst (λ (s : Searching). IsFollowedIn trial most before s index core Under) (sym w.self-is)
                (passed_over trial most index core before middle events at _ c.loop-event-test.true
                (so_far.known.untouched _ (sym c.befalls.ensures ∙ w.if-befalls.false)) so_far.followed);
          }
    ]

pub returns-clause-followed : goal.returns-clause-followed
returns-clause-followed c = record {
  followed = λ _.
      let trial = c.args.task.now.trial in
      subst (λ (events : List Event). IsFollowedIn trial c.args.task.now.most c.args.self.now
      c.loop-event.self c.args.index c.args.core (IsNoneOrOneOf events))
      (take_all c.loop-event.event-index c.args.events.now c.loop-event-test.false) c.loop-event.invariant.followed;
  cut = λ cut. cc;
  has_bench = c.loop-event.invariant.from.has_bench;
}
