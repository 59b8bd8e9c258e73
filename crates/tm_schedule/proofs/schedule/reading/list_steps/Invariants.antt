use Rattle.std.proofs.Common.{◌≡◌, ◌++◌, length}
use Rattle.std.specs.List.{flat_map}
use Rattle.tm_schedule.specs.ScheduleRuns.{word_steps}
use Rattle.tm_schedule.specs.ScheduleWords.{steps_said}
use Rattle.tm_schedule.specs.Unread.{unread_words}
use Rattle.tm_schedule.proofs.schedule.reading.list_steps.Given as goal

-- the steps so far, and those of the words that are left
abbrev pub invariant-words : goal.invariant-words
invariant-words l = flat_map (steps_said (word_steps l.form)) (unread_words l.initial.unread)
    ≡ l.steps.items ++ flat_map (steps_said (word_steps l.form)) (unread_words l.unread)

abbrev pub decreases-words : goal.decreases-words
decreases-words l = length (unread_words l.unread)
