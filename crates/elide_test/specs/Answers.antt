-- Whether tests passed.
use Rattle.std.specs.Prelude.{Bool, List, is_none, if◌then◌else◌}
use Rattle.std.specs.List.{list_all}
use Rattle.elide_test.specs.declared.report.Answer.{Answer}
use Rattle.elide_test.specs.declared.report.Answer.TheVariants.{Fails, Passes}
use Rattle.elide_test.specs.declared.report.FileReport.{FileReport}
use Rattle.elide_test.specs.declared.report.TestReport.{TestReport}

-- no expectation of a test was not met
abbrev pub is_met : TestReport → Bool
is_met report = is_none report.difference

-- each test of a file passed
unfoldable pub passes : FileReport → Bool
passes file = list_all is_met file.tests.items

-- each test of these files passed
abbrev pub answer_of : List FileReport → Answer
answer_of files = if list_all passes files then Passes else Fails
