use Rattle.std.proofs.Common.{◌≡◌, ◌+◌, take}
use Rattle.text_out.specs.Writing.{Wrote}
use Rattle.elide_test.specs.Tap.{tests_text}
use Rattle.elide_test.proofs.tap.tell_tests.Given as goal

-- the tests so far were told, and this is the number of the last
abbrev pub invariant-loop-report : goal.invariant-loop-report
invariant-loop-report g l =
    (l.number ≡ l.before + l.report-index) ×
    Wrote (g.O.Out.device l.initial.out) (g.O.Out.device l.out)
    (tests_text l.name l.before (take l.report-index l.reports))
