use Rattle.std.proofs.Common.{◌≡◌, ◌≤◌, drop, length, map}
use Rattle.std.specs.Prelude.{filter_map}
use Rattle.elide_expect.specs.Judged.{in_order, pattern_of}
use Rattle.elide_expect.specs.Tests.{the_wanted}
use Rattle.elide_expect.proofs.Firsts.{Leads}
use Rattle.elide_expect.proofs.judge.missing.Given as goal

abbrev pub invariant-loop-expected : goal.invariant-loop-expected
invariant-loop-expected l = record {
  within : l.from ≤ length l.lines;
  same : in_order (filter_map pattern_of (map the_wanted (drop l.expected-index l.expectations))) (drop l.from l.lines)
      ≡ in_order (filter_map pattern_of (map the_wanted l.expectations)) l.lines;
  before : Leads l.expectations l.expected-index l.lines l.from;
}
