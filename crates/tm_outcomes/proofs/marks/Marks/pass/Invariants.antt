use Rattle.tm_outcomes.specs.Links.{IsLink}
use Rattle.tm_outcomes.specs.Marks.{HasGrown, IsMarked}
use Rattle.tm_outcomes.proofs.Sourcing.{IsLooking, left_of}
use Rattle.tm_outcomes.proofs.marks.Marks.pass.Given as goal

abbrev pub invariant-links : goal.invariant-links
invariant-links l = record {
  grown : HasGrown (λ from. IsLink l.links from l.node) l.initial.self l.self;
  looking : IsLooking l.links (λ from. IsMarked l.self.marked.items from) l.node l.next;
}

abbrev pub decreases-links : goal.decreases-links
decreases-links l = left_of l.next
