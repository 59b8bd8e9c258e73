use Rattle.std.proofs.Common.{map}
use Rattle.std.specs.Prelude.{filter_map}
use Rattle.elide_expect.specs.Judged.{in_order, pattern_of}
use Rattle.elide_expect.specs.Tests.{the_wanted}
use Rattle.elide_expect.proofs.Firsts.{leads_more, missing_first, same_more}
use Rattle.elide_expect.proofs.judge.missing.Goals as goal

pub returns-in-None-clause-first : goal.returns-in-None-clause-first
returns-in-None-clause-first c =
    missing_first c.args.expectations.now c.loop-expected.expected-index c.expected-item.result c.args.lines.now
    c.loop-expected.from c.loop-expected-test.true c.expected-item.is c.loop-expected.invariant.before
    c.in-None.ensures.none

pub loop-expected-preserved : goal.loop-expected-preserved
loop-expected-preserved c =
    let whole = in_order (filter_map pattern_of (map the_wanted c.args.expectations.now)) c.args.lines.now in
    record {
      within = c.in-Some.ensures.within;
      same = same_more c.args.expectations.now c.loop-expected.expected-index c.expected-item.result c.args.lines.now
          c.loop-expected.from c.in-Some.next whole c.loop-expected-test.true c.expected-item.is
          c.loop-expected.invariant.same c.in-Some.ensures.some;
      before = leads_more c.args.expectations.now c.loop-expected.expected-index c.expected-item.result c.args.lines.now
          c.loop-expected.from c.in-Some.next c.loop-expected-test.true c.expected-item.is
          c.loop-expected.invariant.before
          c.in-Some.ensures.some;
    }
