use Rattle.std.proofs.Common.{List, refl, sym, subst, arith}
use Rattle.tm_outcomes.specs.Nodes.{AreNodesOf, IsTree}
use Rattle.tm_outcomes.specs.Searching.{AreFindings}
use Rattle.tm_outcomes.specs.Written.{IsBenchOf}
use Rattle.tm_outcomes.specs.declared.findings.Findings.{Findings}
use Rattle.tm_outcomes.specs.declared.nodes.Node.{Node}
use Rattle.tm_outcomes.proofs.Kept.{kept_same}
use Rattle.tm_outcomes.proofs.Underway.{begins, ends, goes_on}
use Rattle.tm_outcomes.proofs.searching.Searching.expand.Goals as goal

pub show-requires-clause-bench : goal.show-requires-clause-bench
show-requires-clause-bench c =
    subst (λ (ns : List Node). IsBenchOf c.args.task.now.trial ns c.args.bench.now) (sym c.as_slice.ensures.value)
    c.requires.has_bench.bench

pub show-requires-clause-nodes : goal.show-requires-clause-nodes
show-requires-clause-nodes c =
    let done = c.requires.done in
    subst (λ (ns : List Node). AreNodesOf c.args.task.now.trial ns) (sym c.as_slice.ensures.value)
    (record {
      few = (let few = done.1.few in let small = c.args.task.now.small in omega arith);
      tree = (done.0, done.1.tree);
    })

pub loop-core-init : goal.loop-core-init
loop-core-init c =
    let shown = c.in_ok-show.ensures in
    record {
      search =
          begins c.args.task.now.trial c.args.task.now.most c.args.index c.args.self.now _ refl refl
          c.requires.within shown.found
          (λ schedules tree. shown.shows schedules
          (subst (λ (ns : List Node). IsTree c.args.task.now.trial ns schedules) (sym c.as_slice.ensures.value) tree))
          c.requires.done;
      has_bench = record {
        bench = subst (λ (ns : List Node). IsBenchOf c.args.task.now.trial ns c.show.new.bench)
            c.as_slice.ensures.value shown.bench;
        kept = kept_same c.args.task.now.trial c.args.self.now (record c.args.self.now { found = c.show.new.self })
            c.args.bench.now.noted
            c.show.new.bench.noted refl refl shown.noted c.requires.has_bench.kept;
      };
    }

pub follow_core-requires-clause-from : goal.follow_core-requires-clause-from
follow_core-requires-clause-from c =
    let so_far = c.loop-core.invariant in
    record {
      within = so_far.search.within;
      few = so_far.search.searching.few;
      tree = (so_far.search.schedules, so_far.search.searching.tree);
      has_bench = so_far.has_bench;
    }

pub loop-core-preserved : goal.loop-core-preserved
loop-core-preserved c =
    let followed = c.in_ok-follow_core.ensures in
    record {
      search = goes_on c.args.task.now.trial c.args.task.now.most c.args.index c.loop-core.core c.loop-core.self
          c.follow_core.new.self (sym followed.found) (followed.followed.followed c.in-GoesOn.is)
          c.loop-core.invariant.search;
      has_bench = followed.followed.has_bench;
    }

pub returns-in_default-clause-cut : goal.returns-in_default-clause-cut
returns-in_default-clause-cut c = λ _.
    let followed = c.in_ok-follow_core.ensures in (
      followed.followed.cut c.in_default.is,
      subst (λ (found : Findings). AreFindings c.args.task.now.trial found) (sym followed.found)
          c.loop-core.invariant.search.searching.found,
    )

pub returns-in_default-clause-has_bench : goal.returns-in_default-clause-has_bench
returns-in_default-clause-has_bench c = c.in_ok-follow_core.ensures.followed.has_bench

pub returns-clause-goes_on : goal.returns-clause-goes_on
returns-clause-goes_on c = λ _.
    ends c.args.task.now.trial c.args.task.now.most c.args.index c.loop-core.core c.loop-core.self
    (let n = c.cores-core-end.ensures.number in omega arith) c.loop-core.invariant.search
