-- The object that `elide test --json` prints (docs/JSON.md, "test").
use Rattle.std.specs.Prelude.{ℕ, List, codes, Option, Some, None, option_map, string_bytes, if◌then◌else◌}
use Rattle.std.specs.List.{list_all}
use Rattle.elide_object.specs.Object.{list_value, number_value}
use Rattle.serde_json.specs.Data.{Data, boolean, member, no_members, null, object, string}
use Rattle.elide_test.specs.Answers.{is_met, passes}
use Rattle.elide_test.specs.declared.report.Difference.{Difference}
use Rattle.elide_test.specs.declared.report.FileReport.{FileReport}
use Rattle.elide_test.specs.declared.report.TestReport.{TestReport}

-- the first expectation that was not met
abbrev pub difference_value : Difference → Data
difference_value difference =
    object (member (codes "line") (number_value difference.line)
    (member (codes "expected") (string (string_bytes difference.expected)) no_members))

abbrev pub unmet_value : Option Difference → Data
unmet_value None = null
unmet_value (Some difference) = difference_value difference

abbrev pub refusal_value : Option (List ℕ) → Data
refusal_value None = null
refusal_value (Some line) = string line

abbrev pub test_value : TestReport → Data
test_value report =
    object (member (codes "line") (number_value report.line)
    (member (codes "command") (string (string_bytes report.word))
    (member (codes "ok") (boolean (is_met report))
    (member (codes "unmet") (unmet_value report.difference)
    (member (codes "status") (number_value report.status)
    (member (codes "stderr") (refusal_value (option_map string_bytes report.refusal)) no_members))))))

abbrev pub file_value : FileReport → Data
file_value file =
    object (member (codes "file") (string (string_bytes file.name))
    (member (codes "tests") (list_value test_value file.tests.items) no_members))

-- the exit status
abbrev pub tests_status : List FileReport → ℕ
tests_status files = if list_all passes files then 0 else 3

unfoldable pub tests_value : List FileReport → Data
tests_value files =
    object (member (codes "format") (number_value 1)
    (member (codes "command") (string (codes "test"))
    (member (codes "files") (list_value file_value files)
    (member (codes "status") (number_value (tests_status files)) no_members))))
