-- The comments of tests in the lines of a file (docs/FORMATS.md, "Tests").
use Rattle.std.specs.Prelude.{ℕ, ◌+◌, ◌-◌, ◌==◌, ◌&&◌, ◌||◌, Bool, true, false, nat_eq, nat_lt, if◌then◌else◌, codes}
use Rattle.std.specs.Prelude.{List, [], ◌∷◌, take, drop, length, Option, Some, None}
use Rattle.std.specs.Char.{is_ascii_whitespace}
use Rattle.std.specs.List.{cons_option, prefix_len, starts_with, suffix_len}
use Rattle.elide_expect.specs.declared.comment.Comment.{Comment}
use Rattle.elide_expect.specs.declared.comment.Kind.{Kind}
use Rattle.elide_expect.specs.declared.comment.Kind.TheVariants.{Beside, Source}

-- a text without the blanks at its end, and without those at both ends
abbrev pub without_end_blanks : List ℕ → List ℕ
without_end_blanks text = take (length text - suffix_len is_ascii_whitespace text) text

abbrev pub trimmed : List ℕ → List ℕ
trimmed text = without_end_blanks (drop (prefix_len is_ascii_whitespace text) text)

-- a comment: the line that it stands on, whether it is a command or an expectation, and its text
pub record CommentContent : Type 0 where
  pub line : ℕ
  pub is_command : Bool
  pub text : List ℕ

-- a text that begins with `elide:` or `expect:`
unfoldable pub comment_in : ℕ → List ℕ → Option CommentContent
comment_in n text =
    if starts_with nat_eq text (codes "elide:")
    then Some (record { line = n; is_command = true; text = trimmed (drop 6 text) })
    else if starts_with nat_eq text (codes "expect:")
    then Some (record { line = n; is_command = false; text = trimmed (drop 7 text) })
    else None

-- a line of a source: behind blanks `;`, and behind blanks such a text
unfoldable pub source_comment : ℕ → List ℕ → Option CommentContent
source_comment n line =
    if starts_with nat_eq (trimmed line) (codes ";") then comment_in n (trimmed (drop 1 (trimmed line))) else None

-- a line that should be such a text and is none: an expectation that says nothing, which cannot be read
abbrev pub or_bad : ℕ → Option CommentContent → Option CommentContent
or_bad n (Some comment) = Some comment
or_bad n None = Some (record { line = n; is_command = false; text = [] })

-- a line beside an executable: the first names the program, and empty lines and those behind `#` say nothing
unfoldable pub beside_comment : ℕ → List ℕ → Option CommentContent
beside_comment n line =
    if (n == 1) || (length (trimmed line) == 0) || starts_with nat_eq line (codes "#") then None
    else or_bad n (comment_in n line)

abbrev pub comment_of : Kind → ℕ → List ℕ → Option CommentContent
comment_of Source n line = source_comment n line
comment_of Beside n line = beside_comment n line

-- the comments of these lines, the first of which has this number
abbrev pub comments_from : Kind → ℕ → List (List ℕ) → List CommentContent
comments_from kind n [] = []
comments_from kind n (line ∷ lines) = cons_option (comment_of kind n line) (comments_from kind (n + 1) lines)

-- the path that a first line names
unfoldable pub path_in : List ℕ → Option (List ℕ)
path_in line =
    if starts_with nat_eq line (codes "program ") && nat_lt 0 (length (trimmed (drop 8 line)))
    then Some (trimmed (drop 8 line)) else None

-- ---- what the code's values stand for

abbrev pub comment_content : Comment → CommentContent
comment_content comment = record { line = comment.line; is_command = comment.is_command; text = comment.text.now }
