-- What it means that tests were carried out (docs/FORMATS.md, "Tests").
use Rattle.std.specs.Prelude.{◌≡◌, ℕ, List, [], ◌∷◌, ◌++◌, codes, map, Option, Some, None, Ok, IsSomeAnd, option_map}
use Rattle.std.specs.Prelude.{string_bytes}
use Rattle.std.specs.Prelude.{nat_eq, if◌then◌else◌}
use Rattle.std.specs.Fmt.{decimal}
use Rattle.std.specs.List.{AllZip, ends_with}
use Rattle.elide_expect.specs.Judged.{IsVerdict, Lines}
use Rattle.elide_expect.specs.Tests.{FileContent, TestContent, file_of}
use Rattle.elide_expect.specs.declared.comment.Kind.{Kind}
use Rattle.elide_expect.specs.declared.comment.Kind.TheVariants.{Beside, Source}
use Rattle.elide_expect.specs.declared.judge.Difference.TheVariants as found
use Rattle.elide_expect.specs.declared.judge.Verdict.{Verdict}
use Rattle.elide_expect.specs.declared.judge.Verdict.TheVariants.{Differs, Passes}
use Rattle.elide_program.specs.Files.{Gives, most_bytes}
use Rattle.ia_lex.specs.Lines.{lines_of}
use Rattle.elide_test.specs.Folder.{IsIn}
use Rattle.elide_test.specs.Refusals.{refusal_of}
use Rattle.elide_test.specs.declared.ended.Ended.{Ended}
use Rattle.elide_test.specs.declared.report.Difference.{Difference}
use Rattle.elide_test.specs.declared.report.FileReport.{FileReport}
use Rattle.elide_test.specs.declared.report.TestReport.{TestReport}

-- ---- a test

-- the words of a command, with FILE behind that of the subcommand
abbrev pub with_file : List ℕ → List (List ℕ) → List (List ℕ)
with_file file [] = []
with_file file (word ∷ words) = word ∷ file ∷ words

abbrev pub first_of : List (List ℕ) → List ℕ
first_of [] = []
first_of (word ∷ words) = word

-- a verdict as it is told: what differs of a test that does not pass, and nothing of one that does
abbrev pub TellsVerdict : TestContent → Verdict → Option Difference → Type 0
TellsVerdict test Passes told = told ≡ None
TellsVerdict test (Differs (found.Status n)) told = IsSomeAnd told (λ difference.
    (difference.line ≡ test.line) × (string_bytes difference.expected ≡ codes "status " ++ decimal n))
TellsVerdict test (Differs (found.Unmet n)) told = IsSomeAnd told (λ difference. difference.line ≡ n)

-- the report of a test whose command came to this, and of which this is the verdict
pub record IsToldOf (test : TestContent) (ended : Ended) (verdict : Verdict) (report : TestReport) : Type 0 where
  pub line : report.line ≡ test.line
  pub word : string_bytes report.word ≡ first_of test.words
  pub status_came : report.status ≡ ended.status
  pub refusal_came : option_map string_bytes report.refusal ≡ refusal_of ended.errors.items
  pub difference_told : TellsVerdict test verdict report.difference

-- the report tells the verdict on what the test's command came to
pub record IsJudged (test : TestContent) (ended : Ended) (report : TestReport) : Type 0 where
  pub lines : Lines
  pub printed : map (λ line. line.now) lines ≡ lines_of ended.output.items
  pub verdict : Verdict
  pub judged : IsVerdict test ended.status lines verdict
  pub told : IsToldOf test ended verdict report

-- a test of a program was carried out in a folder
pub record WasTried (came_to : Option (List ℕ) → List (List ℕ) → Ended → Type 0) (folder : Option (List ℕ))
    (program : List ℕ) (test : TestContent) (report : TestReport) : Type 0 where
  pub ended : Ended
  pub came : came_to folder (with_file program test.words) ended
  pub judged : IsJudged test ended report

-- ---- a file

-- tests stand in the comments of a source, or in a file beside an executable
abbrev pub kind_of : List ℕ → Kind
kind_of name = if ends_with nat_eq name (codes ".elide") then Beside else Source

-- FILE of the commands: the program that is named, or the file itself, by its name in the folder
abbrev pub program_or : List ℕ → Option (List ℕ) → List ℕ
program_or name None = name
program_or name (Some program) = program

-- each test of what a text is read as, of a file of this path, was carried out
pub record AreTried (came_to : Option (List ℕ) → List (List ℕ) → Ended → Type 0) (path text : List ℕ)
    (reports : List TestReport) : Type 0 where
  pub content : FileContent
  pub read : file_of (kind_of path) text ≡ Ok content
  pub folder : Option (List ℕ)
  pub name : List ℕ
  pub place : IsIn folder name path
  pub tried : AllZip (WasTried came_to folder (program_or name content.program)) content.tests reports

-- each test of a file was carried out
pub record IsTried (holds : List ℕ → Option (List ℕ)) (came_to : Option (List ℕ) → List (List ℕ) → Ended → Type 0)
    (file : FileReport) : Type 0 where
  pub text : List ℕ
  pub given : Gives (holds (string_bytes file.name)) most_bytes text
  pub tried : AreTried came_to (string_bytes file.name) text file.tests.items
