-- Runs of the same step: words `p`, one step, and `p*n`, n steps p, where p is a core number or has the letter of an
-- event behind it (docs/FORMATS.md, "Schedules").
use Rattle.std.specs.Prelude.{◌≡◌, ℕ, Bool, ◌+◌, ◌==◌, ◌&&◌, List, [], ◌∷◌, ◌++◌, map, take, drop, replicate}
use Rattle.std.specs.Prelude.{length, Option, Some, None, option_map, not, nat_lt, nat_le, if◌then◌else◌}
use Rattle.std.specs.Char.{digit_char, is_ascii_digit}
use Rattle.std.specs.Int.Digits.{digits_of}
use Rattle.std.specs.List.{list_all, position}
use Rattle.std.specs.Str.Parse.{digits_value}
use Rattle.tm_schedule.specs.declared.schedule.runs.Run.{Run}
use Rattle.tm_model.specs.declared.outcome.Pick.{Pick}
use Rattle.tm_schedule.specs.declared.schedule.picks.Form.{Form}
use Rattle.tm_schedule.specs.Picks.{pick_in, pick_word, is_same}

-- the most steps of a text with runs, and of one of its words
abbrev pub most_steps : ℕ
most_steps = 16777216

-- the steps of a run
abbrev pub run_steps : Run → List Pick
run_steps run = replicate run.count run.pick

-- ---- reading

-- how often: one to eight decimal digits, from 1 to 16,777,216
abbrev pub in_range : ℕ → Option ℕ
in_range n = if nat_lt 0 n && nat_le n most_steps then Some n else None

abbrev pub is_count : List ℕ → Bool
is_count text = not (length text == 0) && nat_le (length text) 8 && list_all is_ascii_digit text

abbrev pub count_number : List ℕ → Option ℕ
count_number text = if is_count text then in_range (digits_value 10 text) else None

abbrev pub run_from : Option Pick → Option ℕ → Option Run
run_from None count = None
run_from (Some pick) None = None
run_from (Some pick) (Some count) = Some (record { pick = pick; count = count })

-- the run that a word says, whose first star stands there, or nothing where it says none
abbrev pub run_at : Form → List ℕ → Option ℕ → Option Run
run_at form word None = run_from (pick_in form word) (Some 1)
run_at form word (Some star) = run_from (pick_in form (take star word)) (count_number (drop (star + 1) word))

abbrev pub word_run : Form → List ℕ → Option Run
word_run form word = run_at form word (position (λ b. b == 42) word)

-- the steps that a word says, or nothing where it says none; the empty word says no step
unfoldable pub word_steps : Form → List ℕ → Option (List Pick)
word_steps form word = if length word == 0 then Some [] else option_map run_steps (word_run form word)

-- ---- writing

abbrev pub once : Pick → Run
once pick = record { pick = pick; count = 1 }

-- a run with the next step, where that belongs to it
abbrev pub run_with : Run → Pick → Option Run
run_with run pick =
    if is_same pick run.pick && nat_lt run.count most_steps
    then Some (record { pick = run.pick; count = run.count + 1 })
    else None

-- the longest runs of a list; one of more than 16,777,216 steps is split from the front
abbrev pub runs_behind : Run → List Pick → List Run
runs_behind run [] = run ∷ []
runs_behind run (pick ∷ picks) =
    if is_same pick run.pick && nat_lt run.count most_steps
    then runs_behind (record { pick = run.pick; count = run.count + 1 }) picks
    else run ∷ runs_behind (once pick) picks

abbrev pub runs_of : List Pick → List Run
runs_of [] = []
runs_of (pick ∷ picks) = runs_behind (once pick) picks

-- no run of these goes on into the next one, unless it has the most steps
abbrev pub AreLongest : List Run → Type 0
AreLongest [] = Unit {0}
AreLongest (run ∷ []) = Unit {0}
AreLongest (run ∷ next ∷ runs) = (run.pick ≡ next.pick → run.count ≡ most_steps) × AreLongest (next ∷ runs)

-- a number above 0 in decimal digits
abbrev pub count_text : ℕ → List ℕ
count_text n = map digit_char (digits_of 10 n)

-- the word of a run
unfoldable pub run_word : Run → List ℕ
run_word run = if run.count == 1 then pick_word run.pick else pick_word run.pick ++ 42 ∷ count_text run.count
