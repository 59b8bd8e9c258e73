-- What `elide test` prints (docs/FORMATS.md, "Tests"), and of which tests.
use Rattle.std.specs.Prelude.{◌≡◌, ℕ, Bool, false, true, List, Option}
use Rattle.std.specs.Io.KnownBytes.{Appends}
use Rattle.std.specs.List.{All}
use Rattle.elide_object.specs.Object.{object_text}
use Rattle.elide_test.specs.Answers.{answer_of}
use Rattle.elide_test.specs.Object.{tests_value}
use Rattle.elide_test.specs.Tap.{tap_text}
use Rattle.elide_test.specs.Tried.{IsTried}
use Rattle.elide_test.specs.declared.ended.Ended.{Ended}
use Rattle.elide_test.specs.declared.report.Answer.{Answer}
use Rattle.elide_test.specs.declared.report.FileReport.{FileReport}

-- the text of files was written, or with `--json` their object, and the answer says whether each of their tests passed
pub record IsTold (is_json : Bool) (files : List FileReport) (answer : Answer) (before after : Option (List ℕ))
    : Type 0 where
  pub answered : answer ≡ answer_of files
  pub wrote : is_json ≡ false → Appends before after (tap_text files)
  pub object : is_json ≡ true → Appends before after (object_text (tests_value files))

-- that of files each test of which was carried out, and is told by what its command came to
pub record IsPrinted (holds : List ℕ → Option (List ℕ)) (came_to : Option (List ℕ) → List (List ℕ) → Ended → Type 0)
    (is_json : Bool) (answer : Answer) (before after : Option (List ℕ)) : Type 0 where
  pub files : List FileReport
  pub tried : All (IsTried holds came_to) files
  pub told : IsTold is_json files answer before after
