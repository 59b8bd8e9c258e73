use Rattle.std.proofs.Common.{map, take}
use Rattle.std.specs.List.{AllZip}
use Rattle.std.specs.Option.{option_copied}
use Rattle.elide_expect.specs.Tests.{test_content}
use Rattle.elide_test.specs.Tried.{WasTried}
use Rattle.elide_trial.specs.Came.{CameTo}
use Rattle.elide_trial.proofs.trial.try_tests.Given as goal

-- the tests so far were carried out
abbrev pub invariant-loop-test : goal.invariant-loop-test
invariant-loop-test g l =
    AllZip (WasTried (CameTo (goal.C-post g l.call) l.paths) (option_copied l.folder) l.program)
    (map test_content (take l.test-index l.tests)) l.reports.items
