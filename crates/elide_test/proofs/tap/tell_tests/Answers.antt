use Rattle.std.proofs.Common.{◌≡◌, ◌+◌, ◌++◌, ℕ, List, arith, get_or, subst, sym, take, ◌∙◌, ap}
use Rattle.text_out.proofs.Writing.{wrote_then}
use Rattle.text_out.specs.Writing.{Wrote}
use Rattle.elide_test.specs.Tap.{test_text, tests_text}
use Rattle.elide_test.specs.declared.report.TestReport.{TestReport}
use Rattle.elide_test.proofs.TapTexts.{tests_more}
use Rattle.elide_test.proofs.tap.tell_tests.Goals as goal

pub loop-report-preserved : goal.loop-report-preserved
loop-report-preserved g c =
    let device = g.O.Out.device in
    let name = c.args.name.now in
    let before = c.args.before in
    let reports = c.args.reports.now in
    let i = c.loop-report.report-index in
    let item = c.report-item.result in
    let number : c.loop-report.number + 1 ≡ before + i + 1 = omega arith in
    let last : get_or reports i item ≡ item = sym c.report-item.is in
    let more : tests_text name before (take (i + 1) reports)
    ≡ tests_text name before (take i reports) ++ test_text name (c.loop-report.number + 1) item =
    tests_more name before reports i item (c.loop-report.number + 1) c.loop-report-test.true number
    ∙ ap (λ (x : TestReport). tests_text name before (take i reports) ++ test_text name (c.loop-report.number + 1) x)
    last in
    let Told : List ℕ → Type 0 = λ text. Wrote (device c.args.out.now) (device c.tell_test.new.out) text in
    (omega arith, subst Told (sym more) (wrote_then c.loop-report.invariant.1 c.in_ok-tell_test.ensures))
