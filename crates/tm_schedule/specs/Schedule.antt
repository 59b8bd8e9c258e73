-- The text of a schedule (docs/FORMATS.md, "Schedules").
use Rattle.std.specs.Prelude.{ℕ, Bool, List, [], ◌∷◌, ◌++◌, codes, map, Some, None, Result, Err, nat_eq, if◌then◌else◌}
use Rattle.std.specs.Cmp.Lexicographic.{pointwise}
use Rattle.ia_lex.specs.Lines.{lines_of}
use Rattle.text_out.specs.TextLine.{line_end}
use Rattle.tm_model.specs.declared.outcome.Pick.{Pick}
use Rattle.tm_schedule.specs.declared.schedule.ScheduleFault.{ScheduleFault}
use Rattle.tm_schedule.specs.declared.schedule.ScheduleFault.TheVariants.{BadSchedule, NoMemory, TooManySteps}
use Rattle.tm_schedule.specs.declared.schedule.picks.Form.TheVariants.{Cores, Picks}
use Rattle.tm_schedule.specs.ScheduleWords.{words_from, words_read, words_text}
use Rattle.tm_schedule.specs.Picks.{single_steps, pick_word, has_event}
use Rattle.tm_schedule.specs.ScheduleRuns.{most_steps, run_word, word_steps, runs_of}

abbrev pub fault_code : ScheduleFault → ℕ
fault_code (BadSchedule line) = 52
fault_code NoMemory = 54
fault_code (TooManySteps line) = 56

-- a list of steps: one a word, each under an event or under none
abbrev pub steps_of : List ℕ → Result (List Pick) ScheduleFault
steps_of text = words_read (single_steps Picks) None (words_from 1 (lines_of text))

-- the first line of a schedule: core numbers; runs of at most 16,777,216 steps together; such runs with events
abbrev pub first_title : List ℕ
first_title = codes "schedule 1"

abbrev pub second_title : List ℕ
second_title = codes "schedule 2"

abbrev pub third_title : List ℕ
third_title = codes "schedule 3"

abbrev pub below_title : List ℕ → List (List ℕ) → Result (List Pick) ScheduleFault
below_title title below =
    if pointwise nat_eq title first_title then words_read (single_steps Cores) None (words_from 2 below)
    else if pointwise nat_eq title second_title
    then words_read (word_steps Cores) (Some most_steps) (words_from 2 below)
    else if pointwise nat_eq title third_title
    then words_read (word_steps Picks) (Some most_steps) (words_from 2 below)
    else Err (BadSchedule 1)

abbrev pub schedule_in : List (List ℕ) → Result (List Pick) ScheduleFault
schedule_in [] = Err (BadSchedule 1)
schedule_in (title ∷ below) = below_title title below

-- a schedule
abbrev pub schedule_of : List ℕ → Result (List Pick) ScheduleFault
schedule_of text = schedule_in (lines_of text)

-- a list of steps as words, 32 a line; with the first title above it, a schedule of steps under no event
abbrev pub steps_text : List Pick → List ℕ
steps_text picks = words_text 32 0 (map pick_word picks)

abbrev pub numbers_text : List Pick → List ℕ
numbers_text picks = first_title ++ line_end ++ steps_text picks

-- the first line of a schedule that is written, by whether a step may come under an event
abbrev pub title_line : Bool → List ℕ
title_line has_events = (if has_events then third_title else second_title) ++ line_end

-- steps as words: their longest runs, 16 a line
abbrev pub runs_text : List Pick → List ℕ
runs_text picks = words_text 16 0 (map run_word (runs_of picks))

-- steps that were drawn, as schedules are written
abbrev pub drawn_text : Bool → List Pick → List ℕ
drawn_text has_events picks = title_line has_events ++ runs_text picks

-- a list as schedules are written
abbrev pub schedule_text : List Pick → List ℕ
schedule_text picks = drawn_text (has_event picks) picks
