use Rattle.std.proofs.Common.{sym, ◌∙◌}
use Rattle.elide_expect.specs.Judged.{is_met}
use Rattle.elide_expect.proofs.Firsts.{unmet_first}
use Rattle.elide_expect.proofs.judge.unmet.Goals as goal

pub returns-then-not-is_met-clause-first : goal.returns-then-not-is_met-clause-first
returns-then-not-is_met-clause-first c =
    unmet_first c.args.expectations.now c.loop-expected.expected-index c.expected-item.result
    (is_met c.args.status c.args.lines.now) c.loop-expected-test.true c.expected-item.is
    c.loop-expected.invariant.before (sym c.is_met.ensures ∙ c.if-not-is_met.true)
