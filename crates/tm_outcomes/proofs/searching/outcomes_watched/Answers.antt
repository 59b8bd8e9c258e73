use Rattle.std.proofs.Common.{ℕ, ◌<◌, length, arith}
use Rattle.std.proofs.lemmas.List.Elements.{All-weaker}
use Rattle.tm_outcomes.specs.Links.{LiesWithin}
use Rattle.tm_outcomes.specs.Nodes.{IsEnd, IsStep}
use Rattle.tm_outcomes.specs.declared.links.Link.{Link}
use Rattle.tm_outcomes.proofs.Telling.{is_cut_search, is_cut_verdict, is_search, is_verdict}
use Rattle.tm_outcomes.proofs.searching.outcomes_watched.Goals as goal

pub cut-requires : goal.cut-requires
cut-requires g c = (let full = (c.in_ok-explored.ensures.cut c.in_default.is).0 in omega arith)

pub returns-in_default-clause-ok : goal.returns-in_default-clause-ok
returns-in_default-clause-ok g c =
    let cut = c.in_ok-explored.ensures.cut c.in_default.is in
    is_cut_search c.args.trial.now c.args.most c.in_ok-explored.explored.search c.cut.result cut.0 cut.1 c.cut.ensures

pub returns-in_default-clause-verdict : goal.returns-in_default-clause-verdict
returns-in_default-clause-verdict g c =
    let cut = c.in_ok-explored.ensures.cut c.in_default.is in
    let explored = c.in_ok-explored.ensures in
    is_cut_verdict c.args.trial.now c.args.most c.in_ok-explored.explored.search c.cut.result cut.0 cut.1 c.cut.ensures
    c.explore.new.bench.noted explored.has_bench.bench.written.schedules explored.has_bench.bench.written.tree
    explored.has_bench.kept.apart

pub whole-requires-clause-nodes : goal.whole-requires-clause-nodes
whole-requires-clause-nodes g c =
    let over = c.in_ok-explored.ensures.whole c.in-GoesOn.is in
    record {
      few = (let few = over.searching.few in omega arith);
      tree = (over.schedules, over.searching.tree);
    }

pub whole-requires-clause-bench : goal.whole-requires-clause-bench
whole-requires-clause-bench g c = c.in_ok-explored.ensures.has_bench.bench

pub whole-requires-clause-links : goal.whole-requires-clause-links
whole-requires-clause-links g c =
    let over = c.in_ok-explored.ensures.whole c.in-GoesOn.is in
    let nodes = length c.in_ok-explored.explored.search.nodes.items in
    let counted = over.searching.tree.counted in
    All-weaker (IsStep c.args.trial.now over.schedules) (LiesWithin nodes)
    (λ (link : Link) is. record {
      from = (let b = is.within.from in omega arith);
      to = (let b = is.within.to in omega arith);
    })
    c.in_ok-explored.explored.search.links.items over.searching.steps

pub whole-requires-clause-ends : goal.whole-requires-clause-ends
whole-requires-clause-ends g c =
    let over = c.in_ok-explored.ensures.whole c.in-GoesOn.is in
    let nodes = length c.in_ok-explored.explored.search.nodes.items in
    let counted = over.searching.tree.counted in
    All-weaker (IsEnd c.args.trial.now over.schedules) (λ (node : ℕ). node < nodes)
    (λ (node : ℕ) is. (let b = is.within in omega arith))
    c.in_ok-explored.explored.search.found.ends.items over.searching.ends

pub returns-clause-ok : goal.returns-clause-ok
returns-clause-ok g c =
    let over = c.in_ok-explored.ensures.whole c.in-GoesOn.is in
    is_search c.args.trial.now c.args.most over.done c.in_ok-explored.explored.search over.schedules c.in_ok-told.told
    over.searching over.whole c.in_ok-told.ensures.ok

pub returns-clause-verdict : goal.returns-clause-verdict
returns-clause-verdict g c =
    let over = c.in_ok-explored.ensures.whole c.in-GoesOn.is in
    is_verdict c.args.trial.now c.args.most over.done c.in_ok-explored.explored.search over.schedules c.in_ok-told.told
    over.searching over.whole c.in_ok-told.ensures.ok c.explore.new.bench.noted
    c.in_ok-explored.ensures.has_bench.kept.apart
