use Rattle.std.proofs.Common.{◌≡◌, ◌+◌, List, ◌∷◌, ◌++◌, [], map, subst, sym, take}
use Rattle.std.specs.List.{AllZip}
use Rattle.std.specs.Option.{option_copied}
use Rattle.elide_expect.specs.Tests.{TestContent, test_content}
use Rattle.elide_test.specs.Tried.{WasTried}
use Rattle.elide_test.specs.declared.report.TestReport.{TestReport}
use Rattle.elide_test.proofs.Zips.{map_more, zip_push}
use Rattle.elide_trial.specs.Came.{CameTo}
use Rattle.elide_trial.proofs.trial.try_tests.Goals as goal

pub loop-test-preserved : goal.loop-test-preserved
loop-test-preserved g c =
    let Tried : TestContent → TestReport → Type 0 =
    WasTried (CameTo (goal.C-post g c.args.call.now) c.args.paths.now) (option_copied c.args.folder)
    c.args.program.now in
    let tests = c.args.tests.now in
    let i = c.loop-test.test-index in
    let item = c.test-item.result in
    let contents = map test_content (take i tests) ++ test_content item ∷ [] in
    let more : map test_content (take (i + 1) tests) ≡ contents =
    map_more test_content tests i item c.loop-test-test.true (sym c.test-item.is) in
    let pushed = zip_push Tried (map test_content (take i tests)) c.loop-test.reports.items (test_content item)
    c.in_ok-report.report c.loop-test.invariant c.in_ok-report.ensures in
    let TriedOf : List TestReport → Type 0 = λ reports. AllZip Tried contents reports in
    let TriedBy : List TestContent → Type 0 = λ xs. AllZip Tried xs c.add.new.row.items in
    subst TriedBy (sym more) (subst TriedOf (sym c.in_ok-add.ensures) pushed)
