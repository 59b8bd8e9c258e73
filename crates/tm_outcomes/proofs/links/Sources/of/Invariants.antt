use Rattle.std.proofs.Common.{◌≡◌, length}
use Rattle.tm_outcomes.specs.Links.{AreSourcesTo}
use Rattle.tm_outcomes.proofs.links.Sources.of.Given as goal

abbrev pub invariant-loop-index : goal.invariant-loop-index
invariant-loop-index l = record {
  so_far : AreSourcesTo l.links l.nodes l.sources l.index;
  end : l.index-end ≡ length l.links;
}
