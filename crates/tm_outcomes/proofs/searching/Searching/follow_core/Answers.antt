use Rattle.std.proofs.Common.{inl, Some, None, sym, ap, subst}
use Rattle.tm_outcomes.specs.Outcomes.{IsAllowed, IsNoneOrOneOf, usual_event}
use Rattle.tm_outcomes.specs.Searching.{IsFollowedIn, IsThis}
use Rattle.tm_outcomes.specs.declared.trial.Events.{Events}
use Rattle.tm_outcomes.specs.declared.trial.Events.TheVariants.{Never, Always}
use Rattle.tm_outcomes.proofs.Following.{follows_so}
use Rattle.tm_outcomes.proofs.Grown.{under_fewer}
use Rattle.tm_outcomes.proofs.searching.Searching.follow_core.Goals as goal

pub follow-requires-clause-needed : goal.follow-requires-clause-needed
follow-requires-clause-needed c = λ schedules tree. inl (sym (ap usual_event c.in-Never.is))

pub follow_any-requires-clause-usual : goal.follow_any-requires-clause-usual
follow_any-requires-clause-usual c = ap usual_event c.in-May.is

pub follow-requires-in-Always-clause-needed : goal.follow-requires-in-Always-clause-needed
follow-requires-in-Always-clause-needed c = λ schedules tree. inl (sym (ap usual_event c.in-Always.is))

pub returns-in_ok-follow-in-Never-clause-followed : goal.returns-in_ok-follow-in-Never-clause-followed
returns-in_ok-follow-in-Never-clause-followed c =
    let trial = c.args.task.now.trial in
    let most = c.args.task.now.most in
    let before = c.args.self.now in
    let after = c.follow.new.self in
    let left = c.in_ok-follow-in-Never.ensures.followed in
    record {
      followed = λ on.
          subst (λ (events : Events). IsFollowedIn trial most before after c.args.index c.args.core (IsAllowed events))
          (sym c.in-Never.is)
          (under_fewer trial most c.args.index c.args.core before after (IsThis None) (IsAllowed Never)
          (λ event is. is) (left.followed on));
      cut = left.cut;
      has_bench = left.has_bench;
    }

pub returns-in-May-clause-followed : goal.returns-in-May-clause-followed
returns-in-May-clause-followed c =
    let trial = c.args.task.now.trial in
    let most = c.args.task.now.most in
    let before = c.args.self.now in
    let after = c.follow_any.new.self in
    follows_so trial most c.args.index c.args.core before before after c.follow_any.new.bench
    (IsNoneOrOneOf c.in-May.events.now) (IsAllowed trial.events)
    (λ all. subst (λ (events : Events). IsFollowedIn trial most before after c.args.index c.args.core
    (IsAllowed events)) (sym c.in-May.is) all)
    c.follow_any.result c.follow_any.ensures.followed

pub returns-in_ok-follow-in-Always-clause-followed : goal.returns-in_ok-follow-in-Always-clause-followed
returns-in_ok-follow-in-Always-clause-followed c =
    let trial = c.args.task.now.trial in
    let most = c.args.task.now.most in
    let before = c.args.self.now in
    let after = c.follow-in-Always.new.self in
    let left = c.in_ok-follow-in-Always.ensures.followed in
    record {
      followed = λ on.
          subst (λ (events : Events). IsFollowedIn trial most before after c.args.index c.args.core (IsAllowed events))
          (sym c.in-Always.is)
          (under_fewer trial most c.args.index c.args.core before after (IsThis (Some c.in-Always.event))
          (IsAllowed (Always c.in-Always.event)) (λ event is. is) (left.followed on));
      cut = left.cut;
      has_bench = left.has_bench;
    }
