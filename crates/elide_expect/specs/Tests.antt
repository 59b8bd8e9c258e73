-- The tests of a file (docs/FORMATS.md, "Tests"), or the first line that cannot be read.
use Rattle.std.specs.Prelude.{◌≡◌, ℕ, ◌&&◌, ◌||◌, not, Bool, false, nat_eq, nat_lt, if◌then◌else◌, codes, List, []}
use Rattle.std.specs.Prelude.{◌∷◌, ◌++◌, length, map, Option, Some, None, option_map, Result, Ok, Err}
use Rattle.std.specs.Cmp.Lexicographic.{pointwise}
use Rattle.std.specs.List.{list_all, list_any, starts_with, take_while}
use Rattle.ia_lex.specs.Lines.{lines_of}
use Rattle.elide_expect.specs.declared.comment.Kind.{Kind}
use Rattle.elide_expect.specs.declared.comment.Kind.TheVariants.{Beside, Source}
use Rattle.elide_expect.specs.declared.expectation.Expected.{Expected}
use Rattle.elide_expect.specs.declared.fault.TestFault.{TestFault}
use Rattle.elide_expect.specs.declared.fault.TestFault.TheVariants.{BadTest, NoMemory}
use Rattle.elide_expect.specs.declared.file.Test.{Test}
use Rattle.elide_expect.specs.declared.file.TestFile.{TestFile}
use Rattle.elide_expect.specs.Comments.{CommentContent, comments_from, path_in}
use Rattle.elide_expect.specs.Expectations.{Wanted, clashes, suits, wanted, wanted_of}
use Rattle.elide_expect.specs.Words.{texts, words_of}

-- an expectation: its line, its text, and what it says
pub record ExpectedContent : Type 0 where
  pub line : ℕ
  pub text : List ℕ
  pub wanted : Wanted

-- a test: the line of its command, the words of that, and the expectations
pub record TestContent : Type 0 where
  pub line : ℕ
  pub words : List (List ℕ)
  pub expectations : List ExpectedContent

-- a list before one that is read
abbrev pub ahead : {X : Type 0} → List X → Result (List X) ℕ → Result (List X) ℕ
ahead front (Ok rest) = Ok (front ++ rest)
ahead front (Err n) = Err n

-- ---- commands

-- a word by which a command writes a file
abbrev pub writes : List ℕ → Bool
writes word =
    pointwise nat_eq word (codes "--record") || pointwise nat_eq word (codes "--output")
    || pointwise nat_eq word (codes "--page") || starts_with nat_eq word (codes "--record=")
    || starts_with nat_eq word (codes "--output=") || starts_with nat_eq word (codes "--page=")

-- a subcommand that reads standard input, or makes tests itself
abbrev pub is_left_out : List ℕ → Bool
is_left_out word =
    pointwise nat_eq word (codes "debug") || pointwise nat_eq word (codes "gdb")
    || pointwise nat_eq word (codes "test")

-- one word to 64, and none that a test may not have
abbrev pub may_be_tested : List (List ℕ) → Bool
may_be_tested [] = false
may_be_tested (word ∷ words) =
    nat_lt (length words) 64 && not (is_left_out word) && list_all (λ other. not (writes other)) words

abbrev pub if_testable : Option (List (List ℕ)) → Option (List (List ℕ))
if_testable None = None
if_testable (Some words) = if may_be_tested words then Some words else None

abbrev pub command_of : List ℕ → Option (List (List ℕ))
command_of text = if_testable (words_of text)

-- ---- expectations

-- what a text says that goes with the command and with what is expected before
abbrev pub if_suited : List (List ℕ) → List Wanted → Option Wanted → Option Wanted
if_suited words before None = None
if_suited words before (Some w) =
    if suits words w && not (list_any (λ other. clashes other w) before) then Some w else None

abbrev pub with_expected : CommentContent → Option Wanted → (Wanted → Result (List ExpectedContent) ℕ)
    → Result (List ExpectedContent) ℕ
with_expected comment None next = Err comment.line
with_expected comment (Some w) next =
    ahead ((record { line = comment.line; text = comment.text; wanted = w }) ∷ []) (next w)

-- the expectations that comments say, behind those before
abbrev pub expectations_from : List (List ℕ) → List Wanted → List CommentContent → Result (List ExpectedContent) ℕ
expectations_from words before [] = Ok []
expectations_from words before (comment ∷ comments) =
    with_expected comment (if_suited words before (wanted_of comment.text))
    (λ w. expectations_from words (before ++ w ∷ []) comments)

-- ---- tests

abbrev pub as_test : ℕ → List (List ℕ) → Result (List ExpectedContent) ℕ → Result TestContent ℕ
as_test line words (Err n) = Err n
as_test line words (Ok expectations) = Ok (record { line = line; words = words; expectations = expectations })

abbrev pub test_by : ℕ → Option (List (List ℕ)) → List CommentContent → Result TestContent ℕ
test_by line None comments = Err line
test_by line (Some words) [] = Err line
test_by line (Some words) (comment ∷ comments) =
    as_test line words (expectations_from words [] (comment ∷ comments))

-- the test of a command and of the expectations behind it
abbrev pub test_of : CommentContent → List CommentContent → Result TestContent ℕ
test_of command comments = test_by command.line (command_of command.text) comments

abbrev pub with_test : Result TestContent ℕ → Result (List TestContent) ℕ → Result (List TestContent) ℕ
with_test (Err n) tests = Err n
with_test (Ok test) tests = ahead (test ∷ []) tests

-- a test for each command: with the expectations that stand behind it, up to the next
abbrev pub tests_of : List CommentContent → Result (List TestContent) ℕ
tests_of [] = Ok []
tests_of (comment ∷ comments) =
    if comment.is_command
    then with_test (test_of comment (take_while (λ other. not other.is_command) comments)) (tests_of comments)
    else tests_of comments

-- an expectation above the first command cannot be read
abbrev pub tests_in : List CommentContent → Result (List TestContent) ℕ
tests_in [] = Ok []
tests_in (comment ∷ comments) = if comment.is_command then tests_of (comment ∷ comments) else Err comment.line

-- ---- files

pub record FileContent : Type 0 where
  pub program : Option (List ℕ)
  pub tests : List TestContent

-- the program that the first line beside an executable names
abbrev pub program_of : Kind → List (List ℕ) → Option (Option (List ℕ))
program_of Source lines = Some None
program_of Beside [] = None
program_of Beside (line ∷ lines) = option_map (λ path. Some path) (path_in line)

abbrev pub with_program : Option (Option (List ℕ)) → Result (List TestContent) ℕ → Result FileContent ℕ
with_program None tests = Err 1
with_program (Some program) (Err n) = Err n
with_program (Some program) (Ok tests) = Ok (record { program = program; tests = tests })

abbrev pub file_in : Kind → List (List ℕ) → Result FileContent ℕ
file_in kind lines = with_program (program_of kind lines) (tests_in (comments_from kind 1 lines))

-- the tests of a file, or the number of its first line that cannot be read
abbrev pub file_of : Kind → List ℕ → Result FileContent ℕ
file_of kind text = file_in kind (lines_of text)

-- ---- what the code's values stand for

abbrev pub the_line : Expected → ℕ
the_line expected = expected.line

abbrev pub the_wanted : Expected → Wanted
the_wanted expected = wanted expected.expectation

abbrev pub expected_content : Expected → ExpectedContent
expected_content expected =
    record { line = expected.line; text = expected.text.now; wanted = wanted expected.expectation }

abbrev pub test_content : Test → TestContent
test_content test = record {
  line = test.line;
  words = texts test.words.items;
  expectations = map expected_content test.expectations.items;
}

abbrev pub file_content : TestFile → FileContent
file_content file = record {
  program = option_map (λ path. path.now) file.program;
  tests = map test_content file.tests.items;
}

-- what a function returned is what was to be read, unless memory ran out
abbrev pub Gives : {X C : Type 0} → (X → C) → Result X TestFault → Result C ℕ → Type 0
Gives content (Ok value) read = read ≡ Ok (content value)
Gives content (Err (BadTest n)) read = read ≡ Err n
Gives content (Err NoMemory) read = Unit {0}
