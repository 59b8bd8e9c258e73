use Rattle.std.proofs.Common.{ℕ, ◌<◌, List, length, ◌∙◌, refl, sym, ap, subst, arith}
use Rattle.std.proofs.lemmas.Bool.{false≢true}
use Rattle.tm_core.specs.Theorem.{machine_setting}
use Rattle.tm_model.specs.declared.outcome.Pick.{Pick}
use Rattle.tm_outcomes.specs.Nodes.{AreNodesOf, IsTree, schedule_at}
use Rattle.tm_outcomes.specs.Places.{IsAt}
use Rattle.tm_outcomes.specs.Written.{IsBenchOf}
use Rattle.tm_outcomes.specs.declared.nodes.Node.{Node}
use Rattle.tm_outcomes.specs.declared.place.Place.{Place}
use Rattle.tm_outcomes.proofs.Idling.{leads_back}
use Rattle.tm_outcomes.proofs.Joined.{to_known}
use Rattle.tm_outcomes.proofs.Kept.{kept_same}
use Rattle.tm_outcomes.proofs.Leads.{known_at}
use Rattle.tm_outcomes.proofs.Shown.{none_pending, stopped_closed, undrained}
use Rattle.tm_outcomes.proofs.searching.Searching.follow.Goals as goal

pub come_to-requires-clause-bench : goal.come_to-requires-clause-bench
come_to-requires-clause-bench c =
    subst (λ (ns : List Node). IsBenchOf c.args.task.now.trial ns c.args.bench.now) (sym c.as_slice.ensures.value)
    c.requires.from.has_bench.bench

pub has_stopped-requires : goal.has_stopped-requires
has_stopped-requires c =
    let at : IsAt c.args.task.now.trial c.come_to.new.self.start (schedule_at c.requires.from.tree.0 c.args.index) =
    c.in_ok-come_to.ensures.start c.requires.from.tree.0
    (subst (λ (ns : List Node). IsTree c.args.task.now.trial ns c.requires.from.tree.0) (sym c.as_slice.ensures.value)
    c.requires.from.tree.1) in
    let count = at.count in
    let is_core = c.requires.is_pick.is_core in
    omega arith

pub has_pending-requires : goal.has_pending-requires
has_pending-requires c =
    let at : IsAt c.args.task.now.trial c.come_to.new.self.start (schedule_at c.requires.from.tree.0 c.args.index) =
    c.in_ok-come_to.ensures.start c.requires.from.tree.0
    (subst (λ (ns : List Node). IsTree c.args.task.now.trial ns c.requires.from.tree.0) (sym c.as_slice.ensures.value)
    c.requires.from.tree.1) in
    let count = at.count in
    let is_core = c.requires.is_pick.is_core in
    omega arith

pub set_out-requires-clause-bench : goal.set_out-requires-clause-bench
set_out-requires-clause-bench c =
    subst (λ (ns : List Node). IsBenchOf c.args.task.now.trial ns c.come_to.new.self)
    (c.as_slice.ensures.value ∙ sym c.as_slice-2.ensures.value)
    c.in_ok-come_to.ensures.bench

pub set_out-requires-clause-start : goal.set_out-requires-clause-start
set_out-requires-clause-start c = λ schedules tree.
    c.in_ok-come_to.ensures.start schedules
    (subst (λ (ns : List Node). IsTree c.args.task.now.trial ns schedules)
    (c.as_slice-2.ensures.value ∙ sym c.as_slice.ensures.value) tree)

pub follow_here-requires-clause-here : goal.follow_here-requires-clause-here
follow_here-requires-clause-here c = λ schedules tree.
    c.in_ok-set_out.ensures.here schedules
    (subst (λ (ns : List Node). IsTree c.args.task.now.trial ns schedules) (sym c.as_slice-2.ensures.value) tree)

pub returns-then-not-has_pending-clause-known : goal.returns-then-not-has_pending-clause-known
returns-then-not-has_pending-clause-known c =
    let trial = c.args.task.now.trial in
    let core : ℕ = c.args.pick.core in
    let start : Place = c.come_to.new.self.start in
    let at : (schedules : List (List Pick)) → IsTree trial c.args.self.now.nodes.items schedules →
    IsAt trial start (schedule_at schedules c.args.index) =
    λ schedules tree. c.in_ok-come_to.ensures.start schedules
    (subst (λ (ns : List Node). IsTree trial ns schedules) (sym c.as_slice.ensures.value) tree) in
    let count = (at c.requires.from.tree.0 c.requires.from.tree.1).count in
    let is_core = c.requires.is_pick.is_core in
    let below : core < length start.machine.views = omega arith in
    known_at trial c.args.self.now.nodes.items c.args.index core start _ is_core at
    (sym (stopped_closed _ (sym c.has_stopped.ensures ∙ c.if-has_stopped.true)))
    (λ some. absurd (false≢true some))
    (λ none now stands. undrained (machine_setting start.machine) now core
    (sym (stands.same_pending core below)
    ∙ none_pending _ (sym c.has_pending.ensures ∙ c.if-not-has_pending.true)))

pub come_to-requires-clause-nodes : goal.come_to-requires-clause-nodes
come_to-requires-clause-nodes c =
    subst (λ (ns : List Node). AreNodesOf c.args.task.now.trial ns) (sym c.as_slice.ensures.value)
    (record {
      few = (let few = c.requires.from.few in let small = c.args.task.now.small in omega arith);
      tree = c.requires.from.tree;
    })

pub set_out-requires-clause-nodes : goal.set_out-requires-clause-nodes
set_out-requires-clause-nodes c =
    subst (λ (ns : List Node). AreNodesOf c.args.task.now.trial ns) (sym c.as_slice-2.ensures.value)
    (record {
      few = (let few = c.requires.from.few in let small = c.args.task.now.small in omega arith);
      tree = c.requires.from.tree;
    })

pub follow_here-requires-clause-from : goal.follow_here-requires-clause-from
follow_here-requires-clause-from c = record {
  within = c.requires.from.within;
  few = c.requires.from.few;
  tree = c.requires.from.tree;
  has_bench = record {
    bench =
        subst (λ (ns : List Node). IsBenchOf c.args.task.now.trial ns c.set_out.new.self) c.as_slice-2.ensures.value
        c.in_ok-set_out.ensures.bench;
    kept =
        kept_same c.args.task.now.trial c.args.self.now c.args.self.now c.args.bench.now.noted
        c.set_out.new.self.noted refl refl
        (c.in_ok-set_out.ensures.noted ∙ c.in_ok-come_to.ensures.noted) c.requires.from.has_bench.kept;
  };
}

pub returns-then-not-has_pending-clause-followed : goal.returns-then-not-has_pending-clause-followed
returns-then-not-has_pending-clause-followed c = record {
  followed = λ _.
      let trial = c.args.task.now.trial in
      let index = c.args.index in
      let pick = c.args.pick in
      to_known trial c.args.task.now.most index index pick c.args.self.now c.join.new.self
      (ap (λ v. v.items) c.in_ok-join.ensures.nodes)
      c.in_ok-join.ensures.links c.requires.from.few c.requires.from.within c.requires.from.within c.requires.is_pick
      (λ schedules tree.
      leads_back trial schedules index c.come_to.new.self.start pick c.requires.is_pick.is_core
      (c.in_ok-come_to.ensures.start schedules
      (subst (λ (ns : List Node). IsTree trial ns schedules) (sym c.as_slice.ensures.value) tree))
      (sym c.has_stopped.ensures ∙ c.if-has_stopped.true)
      (none_pending _ (sym c.has_pending.ensures ∙ c.if-not-has_pending.true)));
  cut = λ cut. cc;
  has_bench = record {
    bench =
        subst (λ (ns : List Node). IsBenchOf c.args.task.now.trial ns c.come_to.new.self)
        (c.as_slice.ensures.value ∙ sym (ap (λ v. v.items) c.in_ok-join.ensures.nodes)) c.in_ok-come_to.ensures.bench;
    kept =
        kept_same c.args.task.now.trial c.args.self.now c.join.new.self c.args.bench.now.noted c.come_to.new.self.noted
        c.in_ok-join.ensures.nodes c.in_ok-join.ensures.newest c.in_ok-come_to.ensures.noted
        c.requires.from.has_bench.kept;
  };
}
