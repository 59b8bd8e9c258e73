-- Lines of words that say steps: how they are read and written (docs/FORMATS.md, "Schedules").
use Rattle.std.specs.Prelude.{ℕ, ◌+◌, ◌%◌, ◌==◌, Bool, false, List, [], ◌∷◌, ◌++◌, map, length, Option, Some, None}
use Rattle.std.specs.Prelude.{unwrap_or, Result, Ok, Err, nat_lt, if◌then◌else◌}
use Rattle.std.specs.List.{flat_map, slice_split}
use Rattle.tm_schedule.specs.declared.schedule.ScheduleFault.{ScheduleFault}
use Rattle.tm_schedule.specs.declared.schedule.ScheduleFault.TheVariants.{BadSchedule, TooManySteps}
use Rattle.text_out.specs.TextLine.{line_end}
use Rattle.tm_model.specs.declared.outcome.Pick.{Pick}

-- what stands between the spaces of a line; between two spaces side by side this is empty, and no word
abbrev pub words_of : List ℕ → List (List ℕ)
words_of line = slice_split (λ b. b == 32) line

-- a word, and the number of its line
pub record Word : Type 0 where
  pub line : ℕ
  pub text : List ℕ

abbrev pub on_line : ℕ → List (List ℕ) → List Word
on_line n words = map (λ word. record { line = n; text = word }) words

-- the words of lines, the first of which is line n
abbrev pub words_from : ℕ → List (List ℕ) → List Word
words_from n [] = []
words_from n (line ∷ below) = on_line n (words_of line) ++ words_from (n + 1) below

-- ---- reading: `says` gives the steps that a word says, or nothing where it says none; `most` is the limit on
-- steps, if any

abbrev pub is_above : Option ℕ → ℕ → Bool
is_above None steps = false
is_above (Some most) steps = nat_lt most steps

-- what is wrong with a word of line n that stands behind so many steps, by the steps that it says
abbrev pub steps_fault : Option ℕ → ℕ → ℕ → Option (List Pick) → Option ScheduleFault
steps_fault most before n None = Some (BadSchedule n)
steps_fault most before n (Some steps) = if is_above most (before + length steps) then Some (TooManySteps n) else None

-- the steps of a word, of which there are none where it breaks the form
abbrev pub steps_said : (List ℕ → Option (List Pick)) → Word → List Pick
steps_said says word = unwrap_or (says word.text) []

-- the fault of the first word that has one, so many steps standing before these words
abbrev pub first_of : Option ScheduleFault → Option ScheduleFault → Option ScheduleFault
first_of None later = later
first_of (Some fault) later = Some fault

abbrev pub first_fault : (List ℕ → Option (List Pick)) → Option ℕ → ℕ → List Word → Option ScheduleFault
first_fault says most before [] = None
first_fault says most before (word ∷ words) =
    first_of (steps_fault most before word.line (says word.text))
    (first_fault says most (before + length (steps_said says word)) words)

-- words are the steps of each, one after another, unless one of them has a fault
abbrev pub unless : Option ScheduleFault → List Pick → Result (List Pick) ScheduleFault
unless None steps = Ok steps
unless (Some fault) steps = Err fault

abbrev pub words_read : (List ℕ → Option (List Pick)) → Option ℕ → List Word → Result (List Pick) ScheduleFault
words_read says most words = unless (first_fault says most 0 words) (flat_map (steps_said says) words)

-- ---- writing

-- behind a word stands a line end where it is the last of its line or of all, and else a space
abbrev pub behind_word : ℕ → ℕ → List (List ℕ) → List ℕ
behind_word size column [] = line_end
behind_word size column (word ∷ words) = if column + 1 == size then line_end else 32 ∷ []

-- words, so many a line, of which some stand on the first line already
abbrev pub words_text : ℕ → ℕ → List (List ℕ) → List ℕ
words_text size column [] = []
words_text size column (word ∷ words) =
    word ++ behind_word size column words ++ words_text size ((column + 1) % size) words
