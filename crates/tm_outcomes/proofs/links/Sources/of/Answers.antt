use Rattle.std.proofs.Common.{◌<◌, refl, arith}
use Rattle.std.proofs.lemmas.List.Elements.{All-contains, Contains-get_or}
use Rattle.tm_outcomes.specs.Links.{LiesWithin, link_at, no_link}
use Rattle.tm_outcomes.proofs.Sourcing.{one_more}
use Rattle.tm_outcomes.proofs.links.Sources.of.Goals as goal

pub add-requires : goal.add-requires
add-requires c =
    let links = c.args.links.now in
    let index = c.loop-index.index in
    let lies : LiesWithin c.args.nodes (link_at links index) =
    All-contains (LiesWithin c.args.nodes) links (link_at links index) c.requires
    (Contains-get_or links index no_link c.loop-index-test.true) in
    let count = c.loop-index.invariant.so_far.nodes_count in
    let below : (link_at links index).to < c.args.nodes = lies.to in
    omega arith

pub loop-index-preserved : goal.loop-index-preserved
loop-index-preserved c =
    let links = c.args.links.now in
    let index = c.loop-index.index in
    let lies : LiesWithin c.args.nodes (link_at links index) =
    All-contains (LiesWithin c.args.nodes) links (link_at links index) c.requires
    (Contains-get_or links index no_link c.loop-index-test.true) in
    record {
      so_far = one_more links c.args.nodes index _ c.loop-index.sources c.add.new.self refl
          lies.to c.in_ok-add.ensures c.loop-index.invariant.so_far;
      end = refl;
    }
