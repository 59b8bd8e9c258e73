-- What is told of the loop that a run comes to (docs/FORMATS.md, "Checks").
use Rattle.std.specs.Prelude.{ℕ, nat_eq, nat_lt, List, [], ◌∷◌, ◌++◌, codes, length, Option, Some, None, if◌then◌else◌}
use Rattle.std.specs.Fmt.{decimal}
use Rattle.std.specs.List.{flat_map}
use Rattle.text_out.specs.TextLine.{line_end}
use Rattle.tm_model.specs.declared.outcome.Pick.{Pick}
use Rattle.tm_schedule.specs.Picks.{pick_word}
use Rattle.tm_hunt.specs.Cycle.{loop_of}
use Rattle.tm_hunt.specs.declared.cycle.Cycle.{Cycle}

abbrev pub from_text : ℕ → List ℕ
from_text start = if nat_eq start 0 then codes "from the start" else codes "behind the first " ++ decimal start

-- how many steps it has, and how many come before it
unfoldable pub cycle_front : Cycle → List ℕ
cycle_front cycle = codes "cycle of " ++ decimal cycle.steps ++ codes " steps " ++ from_text cycle.start

abbrev pub word_text : Pick → List ℕ
word_text pick = 32 ∷ pick_word pick

-- its steps, where they are at most 64
abbrev pub loop_text : List Pick → List ℕ
loop_text steps = if nat_lt 64 (length steps) then [] else codes ":" ++ flat_map word_text steps

-- a loop of these steps
abbrev pub told_loop : Cycle → List Pick → List ℕ
told_loop cycle steps = cycle_front cycle ++ (loop_text steps ++ line_end)

-- a line of its own, where a run of these steps comes to one
abbrev pub cycle_text : List Pick → Option Cycle → List ℕ
cycle_text picks None = []
cycle_text picks (Some cycle) = told_loop cycle (loop_of picks cycle)
