use Rattle.std.proofs.Common.{◌≡◌, ◌+◌, ◌/◌, ◌^◌, ◌<◌, ◌≤◌, ◌++◌, None, length}
use Rattle.std.specs.List.{flat_map}
use Rattle.std.specs.Prelude.{vec_capacity}
use Rattle.ia_lex.specs.Lines.{lines_of}
use Rattle.tm_schedule.specs.declared.schedule.picks.Form.{Form}
use Rattle.tm_schedule.specs.Picks.{single_steps}
use Rattle.tm_schedule.specs.ScheduleWords.{first_fault, steps_said, words_from}
use Rattle.tm_schedule.proofs.schedule.numbers.read_short.Given as goal

-- the fault is that of what is left; the steps so far, and those of what is left
abbrev pub invariant-words : goal.invariant-words
invariant-words l = record {
  fault : (form : Form)
      → first_fault (single_steps form) None (length l.fn.picks.items) (words_from (l.above + 1) (lines_of l.text))
      ≡ first_fault (single_steps form) None (length l.picks.items) (words_from (l.line + 1) (lines_of l.left));
  steps : (form : Form)
      → l.fn.picks.items ++ flat_map (steps_said (single_steps form)) (words_from (l.above + 1) (lines_of l.text))
      ≡ l.picks.items ++ flat_map (steps_said (single_steps form)) (words_from (l.line + 1) (lines_of l.left));
  room : length l.picks.items + length l.left / 2 ≤ vec_capacity l.picks;
  few : l.line + length l.left < 2 ^ 64;
}

abbrev pub decreases-words : goal.decreases-words
decreases-words l = length l.left
