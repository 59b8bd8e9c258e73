use Rattle.std.proofs.Common.{◌≡◌, drop, map}
use Rattle.elide_expect.specs.Judged.{wanted_status}
use Rattle.elide_expect.specs.Tests.{the_wanted}
use Rattle.elide_expect.proofs.judge.wanted_status.Given as goal

abbrev pub invariant-loop-expected : goal.invariant-loop-expected
invariant-loop-expected l = wanted_status (map the_wanted (drop l.expected-index l.expectations))
    ≡ wanted_status (map the_wanted l.expectations)
