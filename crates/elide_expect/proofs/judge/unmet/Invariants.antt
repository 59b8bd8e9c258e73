use Rattle.std.proofs.Common.{◌≡◌, true, take, drop, map}
use Rattle.std.specs.List.{list_all}
use Rattle.elide_expect.specs.Judged.{is_met}
use Rattle.elide_expect.specs.Tests.{the_wanted}
use Rattle.elide_expect.proofs.judge.unmet.Given as goal

abbrev pub invariant-loop-expected : goal.invariant-loop-expected
invariant-loop-expected l = record {
  same : list_all (is_met l.status l.lines) (map the_wanted (drop l.expected-index l.expectations))
      ≡ list_all (is_met l.status l.lines) (map the_wanted l.expectations);
  before : list_all (is_met l.status l.lines) (map the_wanted (take l.expected-index l.expectations)) ≡ true;
}
