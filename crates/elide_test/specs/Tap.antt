-- What `elide test` prints: the Test Anything Protocol, version 14 (docs/FORMATS.md, "Tests").
use Rattle.std.specs.Prelude.{ℕ, ◌+◌, Bool, ◌||◌, List, [], ◌∷◌, ◌++◌, codes, length, nat_eq}
use Rattle.std.specs.Prelude.{Option, Some, None, option_map, string_bytes, if◌then◌else◌}
use Rattle.std.specs.Fmt.{decimal}
use Rattle.std.specs.List.{list_any}
use Rattle.elide_setup.specs.Told.{fault_back, fault_front}
use Rattle.elide_setup.specs.declared.fault.Fault.{Fault}
use Rattle.elide_shell.specs.Controls.{escaped}
use Rattle.elide_shell.specs.declared.escapes.Mark.TheVariants.{Backslash, DoubledQuote, Hash}
use Rattle.text_out.specs.TextLine.{line_end}
use Rattle.elide_test.specs.declared.report.Difference.{Difference}
use Rattle.elide_test.specs.declared.report.FileReport.{FileReport}
use Rattle.elide_test.specs.declared.report.TestReport.{TestReport}

-- Names and texts have C's escapes, so that none of them ends a line or drives a terminal ("Names of files"); a name in
-- the line of a test has a `\` before each `#`, too.

-- a text as a scalar of YAML: between quotes, where a `:` or a `#` in it could end it
abbrev pub is_special : ℕ → Bool
is_special c = nat_eq c 35 || nat_eq c 58

unfoldable pub scalar : List ℕ → List ℕ
scalar text =
    if list_any is_special text then codes "'" ++ (escaped DoubledQuote text ++ codes "'") else escaped Backslash text

-- ---- a test

-- the line by which the command was refused
abbrev pub refusal_text : Option (List ℕ) → List ℕ
refusal_text None = []
refusal_text (Some line) = codes "  stderr: " ++ (scalar line ++ line_end)

-- an expectation that was not met: its line, its text, and the status and the refusal that came
unfoldable pub block_text : ℕ → List ℕ → ℕ → Option (List ℕ) → List ℕ
block_text line expected status refusal =
    codes "  ---\n  line: " ++ (decimal line ++ (codes "\n  expected: " ++ (scalar expected
    ++ (codes "\n  came: status " ++ (decimal status ++ (line_end ++ (refusal_text refusal ++ codes "  ...\n")))))))

abbrev pub difference_text : ℕ → Option (List ℕ) → Option Difference → List ℕ
difference_text status refusal None = []
difference_text status refusal (Some difference) =
    block_text difference.line (string_bytes difference.expected) status refusal

abbrev pub verdict_text : Option Difference → List ℕ
verdict_text None = codes "ok "
verdict_text (Some difference) = codes "not ok "

-- a test by its number, its file and the word of its command
unfoldable pub line_text : Option Difference → ℕ → List ℕ → List ℕ → List ℕ
line_text difference number file word =
    verdict_text difference ++ (decimal number ++ (codes " " ++ (escaped Hash file ++ (codes " " ++ (escaped Hash word
    ++ line_end)))))

-- and below what differed
unfoldable pub test_text : List ℕ → ℕ → TestReport → List ℕ
test_text file number report =
    line_text report.difference number file (string_bytes report.word)
    ++ difference_text report.status (option_map string_bytes report.refusal) report.difference

-- ---- files

-- the tests of a file, behind so many others
abbrev pub tests_text : List ℕ → ℕ → List TestReport → List ℕ
tests_text file before [] = []
tests_text file before (report ∷ reports) =
    test_text file (before + 1) report ++ tests_text file (before + 1) reports

unfoldable pub none_text : List ℕ → List ℕ
none_text file = codes "# no tests in " ++ (escaped Backslash file ++ line_end)

abbrev pub named_text : ℕ → List ℕ → List TestReport → List ℕ
named_text before file [] = none_text file
named_text before file (report ∷ reports) = tests_text file before (report ∷ reports)

-- a file, behind so many tests of others
unfoldable pub file_text : ℕ → FileReport → List ℕ
file_text before file = named_text before (string_bytes file.name) file.tests.items

abbrev pub files_text : ℕ → List FileReport → List ℕ
files_text before [] = []
files_text before (file ∷ files) = file_text before file ++ files_text (before + length file.tests.items) files

-- how many tests these files have
abbrev pub count_of : List FileReport → ℕ
count_of [] = 0
count_of (file ∷ files) = length file.tests.items + count_of files

-- the file that cannot be tried, and the line that tells the fault, by some name
abbrev pub bail_line : List ℕ → Fault → List ℕ → List ℕ
bail_line file fault word =
    codes "Bail out! " ++ (escaped Backslash file ++ (codes ": " ++ (fault_front fault ++ word ++ fault_back fault)))

-- it stands below the files that were tried before, in the place of the count
unfoldable pub bail_text : List FileReport → List ℕ → Fault → List ℕ → List ℕ
bail_text files file fault word = codes "TAP version 14\n" ++ files_text 0 files ++ bail_line file fault word

-- all files, and how many tests they have
unfoldable pub tap_text : List FileReport → List ℕ
tap_text files =
    codes "TAP version 14\n" ++ (files_text 0 files ++ (codes "1.." ++ (decimal (count_of files) ++ line_end)))
