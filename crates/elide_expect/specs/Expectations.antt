-- What is expected of a command, as a text says it (docs/FORMATS.md, "Tests").
use Rattle.std.specs.Prelude.{ℕ, ◌==◌, ◌&&◌, ◌||◌, not, Bool, true, false, nat_eq, nat_lt, if◌then◌else◌, codes}
use Rattle.std.specs.Prelude.{List, [], ◌∷◌, drop, length, map, Option, Some, None, option_map}
use Rattle.std.specs.Char.{is_ascii_digit}
use Rattle.std.specs.Cmp.Lexicographic.{pointwise}
use Rattle.std.specs.List.{list_all, list_any, starts_with}
use Rattle.ia_lex.specs.Numbers.{word_number}
use Rattle.elide_expect.specs.declared.expectation.Rule.{Rule}
use Rattle.elide_expect.specs.declared.expectation.Rule.TheVariants.{AtLeast, Exactly, Never}
use Rattle.elide_expect.specs.declared.expectation.Expectation.{Expectation}
use Rattle.elide_expect.specs.declared.expectation.Expectation.TheVariants as code
use Rattle.elide_expect.specs.Comments.{trimmed}
use Rattle.elide_expect.specs.Outcomes.{fronts_of}
use Rattle.elide_expect.specs.Patterns.{pieces_of}
use Rattle.elide_expect.specs.Words.{texts}

-- the exit status; a line, in pieces with anything between; that a hunt finds no failure; outcomes, by the fronts of
-- their lines
pub data Wanted : Type 0 where
  Status : ℕ → Wanted
  Line : List (List ℕ) → Wanted
  NoFailure : Wanted
  Outcomes : Rule → List (List ℕ) → Wanted

-- decimal digits, at most 255
abbrev pub below_256 : Option ℕ → Option Wanted
below_256 None = None
below_256 (Some n) = if nat_lt n 256 then Some (Status n) else None

unfoldable pub status_of : List ℕ → Option Wanted
status_of digits = if list_all is_ascii_digit digits then below_256 (word_number digits) else None

abbrev pub line_of : List ℕ → Option Wanted
line_of text = if length text == 0 then None else Some (Line (pieces_of text))

abbrev pub outcomes_of : Rule → List ℕ → Option Wanted
outcomes_of rule text = option_map (λ fronts. Outcomes rule fronts) (fronts_of text)

unfoldable pub wanted_of : List ℕ → Option Wanted
wanted_of text =
    if pointwise nat_eq text (codes "no failure") then Some NoFailure
    else if starts_with nat_eq text (codes "status ") then status_of (trimmed (drop 7 text))
    else if starts_with nat_eq text (codes "line ") then line_of (trimmed (drop 5 text))
    else if starts_with nat_eq text (codes "exactly ") then outcomes_of Exactly (drop 8 text)
    else if starts_with nat_eq text (codes "at least ") then outcomes_of AtLeast (drop 9 text)
    else if starts_with nat_eq text (codes "never ") then outcomes_of Never (drop 6 text)
    else None

-- ---- which go with a command, and with one another

-- the first word
abbrev pub is_called : List ℕ → List (List ℕ) → Bool
is_called name [] = false
is_called name (word ∷ words) = pointwise nat_eq word name

-- a command prints lines for a person where no word asks for JSON
abbrev pub prints_lines : List (List ℕ) → Bool
prints_lines words = not (list_any (λ word. pointwise nat_eq word (codes "--json")) words)

abbrev pub suits : List (List ℕ) → Wanted → Bool
suits words NoFailure = is_called (codes "hunt") words && prints_lines words
suits words (Outcomes rule fronts) = is_called (codes "outcomes") words && prints_lines words
suits words (Status n) = true
suits words (Line pieces) = true

-- the status without which it is not met
abbrev pub needed_status : Wanted → Option ℕ
needed_status (Status n) = Some n
needed_status (Line pieces) = None
needed_status NoFailure = Some 0
needed_status (Outcomes AtLeast fronts) = None
needed_status (Outcomes Exactly fronts) = Some 0
needed_status (Outcomes Never fronts) = Some 0

abbrev pub differ : Option ℕ → Option ℕ → Bool
differ (Some a) (Some b) = not (a == b)
differ None b = false
differ (Some a) None = false

abbrev pub is_status : Wanted → Bool
is_status (Status n) = true
is_status (Line pieces) = false
is_status NoFailure = false
is_status (Outcomes rule fronts) = false

-- two statuses, or two expectations of which never both are met
abbrev pub clashes : Wanted → Wanted → Bool
clashes a b = (is_status a && is_status b) || differ (needed_status a) (needed_status b)

-- ---- what the code's values stand for

abbrev pub wanted : Expectation → Wanted
wanted (code.Status n) = Status n
wanted (code.Line pieces) = Line (map (λ piece. piece.now) pieces.items)
wanted code.NoFailure = NoFailure
wanted (code.Outcomes rule fronts) = Outcomes rule (texts fronts.items)
