use Rattle.std.proofs.Common.{◌≡◌, ◌≤◌, Some, length}
use Rattle.tm_schedule.specs.ScheduleRuns.{most_steps, word_steps}
use Rattle.tm_schedule.specs.ScheduleWords.{first_fault}
use Rattle.tm_schedule.specs.Unread.{unread_words}
use Rattle.tm_schedule.proofs.schedule.reading.count_steps.Given as goal

-- the fault is that of the words that are left
abbrev pub invariant-words : goal.invariant-words
invariant-words l =
    (first_fault (word_steps l.form) (Some most_steps) 0 (unread_words l.initial.unread)
    ≡ first_fault (word_steps l.form) (Some most_steps) l.count (unread_words l.unread)) × (l.count ≤ 16777216)

abbrev pub decreases-words : goal.decreases-words
decreases-words l = length (unread_words l.unread)
