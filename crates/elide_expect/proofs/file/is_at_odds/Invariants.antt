use Rattle.std.proofs.Common.{◌≡◌, drop, map}
use Rattle.std.specs.List.{list_any}
use Rattle.elide_expect.specs.Expectations.{clashes, wanted}
use Rattle.elide_expect.specs.Tests.{the_wanted}
use Rattle.elide_expect.proofs.file.is_at_odds.Given as goal

abbrev pub invariant-loop-other : goal.invariant-loop-other
invariant-loop-other l =
    list_any (λ other. clashes other (wanted l.expectation)) (map the_wanted (drop l.other-index l.before))
    ≡ list_any (λ other. clashes other (wanted l.expectation)) (map the_wanted l.before)
