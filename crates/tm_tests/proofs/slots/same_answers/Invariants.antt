use Rattle.std.proofs.Common.{◌≡◌}
use Rattle.tm_tests.proofs.slots.same_answers.Given as goal

-- the numbers of cores and lines stay
abbrev pub invariant-loop : goal.invariant-loop
invariant-loop g l = record {
  one : (g.A.Sets.content l.one).fixed ≡ (g.A.Sets.content l.fn.one).fixed;
  other : (g.B.Sets.content l.other).fixed ≡ (g.B.Sets.content l.fn.other).fixed;
}
