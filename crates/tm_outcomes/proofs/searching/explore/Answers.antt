use Rattle.std.proofs.Common.{◌≡◌, ◌∙◌, ℕ, Option, length, sym, subst, arith}
use Rattle.tm_outcomes.specs.Written.{IsAtNode}
use Rattle.tm_outcomes.proofs.Benches.{written_first}
use Rattle.tm_outcomes.proofs.Kept.{apart_first}
use Rattle.tm_outcomes.proofs.searching.explore.Goals as goal

pub loop-index-init : goal.loop-index-init
loop-index-init g c =
    let opened = c.in_ok-search.ensures.done c.args.task.now.trial in
    let nodes = c.in_ok-search.search.nodes.items in
    let one : length nodes ≡ 1 = (let some = opened.1.tree.some in let few = opened.1.few in omega arith) in
    record {
      done = (
        opened.0,
        record {
          tree = opened.1.tree;
          steps = opened.1.steps;
          ends = opened.1.ends;
          explored = opened.1.explored;
          found = opened.1.found;
          few = let few = opened.1.few in let some = c.requires.some in omega arith;
        },
      );
      has_bench = record {
        bench = record {
          start = c.requires.bench.start;
          here = c.requires.bench.here;
          at = subst (λ (at : Option ℕ). IsAtNode c.args.task.now.trial nodes c.args.bench.now.start at)
              (sym c.requires.bench.at) tt;
          other = c.requires.bench.other;
          written = written_first c.args.task.now.trial nodes c.args.bench.now.noted opened.0
              c.requires.bench.here.opening opened.1.tree one;
        };
        kept = record {
          apart =
              apart_first c.args.task.now.trial nodes c.args.bench.now.noted opened.0 c.args.bench.now.here
              opened.1.tree one
              c.requires.bench.begins (c.in_ok-search.ensures.digest ∙ c.digest.ensures) c.in_ok-search.ensures.older;
          newest = c.in_ok-search.ensures.newest;
        };
      };
    }

pub returns-then-index-len-clause-whole : goal.returns-then-index-len-clause-whole
returns-then-index-len-clause-whole g c = λ _.
    let done = c.loop-index.invariant.done in
    record { done = c.loop-index.index; schedules = done.0; searching = done.1; whole = omega arith }

pub returns-in_default-clause-cut : goal.returns-in_default-clause-cut
returns-in_default-clause-cut g c = λ _. c.in_ok-expand.ensures.cut c.in_default.is

pub returns-clause-whole : goal.returns-clause-whole
returns-clause-whole g c = λ _.
    let done = c.loop-index.invariant.done in
    record {
      done = c.loop-index.index;
      schedules = done.0;
      searching = done.1;
      whole = (let few = done.1.few in omega arith);
    }

pub overflow_cast-len : goal.overflow_cast-len
overflow_cast-len g c = (let few = c.loop-index.invariant.done.1.few in omega arith)
