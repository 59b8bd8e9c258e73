use Rattle.std.proofs.Common.{◌≡◌, ◌+◌, ◌++◌, None, length}
use Rattle.std.specs.List.{flat_map}
use Rattle.ia_lex.specs.Lines.{lines_of}
use Rattle.tm_schedule.specs.Picks.{single_steps}
use Rattle.tm_schedule.specs.ScheduleWords.{steps_said, first_fault, words_from}
use Rattle.tm_schedule.specs.Unread.{unread_words}
use Rattle.tm_schedule.proofs.schedule.numbers.read_numbers.Given as goal

-- the fault is that of the words that are left; the steps so far, and those of the words that are left
abbrev pub invariant-words : goal.invariant-words
invariant-words l =
    (first_fault (single_steps l.form) None 0 (words_from (l.above + 1) (lines_of l.text))
    ≡ first_fault (single_steps l.form) None (length l.picks.items) (unread_words l.unread))
    × (flat_map (steps_said (single_steps l.form)) (words_from (l.above + 1) (lines_of l.text))
    ≡ l.picks.items ++ flat_map (steps_said (single_steps l.form)) (unread_words l.unread))

abbrev pub decreases-words : goal.decreases-words
decreases-words l = length (unread_words l.unread)
