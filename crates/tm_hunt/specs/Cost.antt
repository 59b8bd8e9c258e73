-- How simple a schedule is.
use Rattle.std.specs.Prelude.{ℕ, ◌+◌, ◌*◌, ◌==◌, List, [], ◌∷◌, Option, Some, None, length, if◌then◌else◌}
use Rattle.tm_model.specs.declared.outcome.Event.{Event}
use Rattle.tm_model.specs.declared.outcome.Pick.{Pick}

-- how often the core changes from one step to the next, behind a step of a core
abbrev pub switches_behind : ℕ → List Pick → ℕ
switches_behind last [] = 0
switches_behind last (pick ∷ picks) = (if pick.core == last then 0 else 1) + switches_behind pick.core picks

abbrev pub switches_of : List Pick → ℕ
switches_of [] = 0
switches_of (pick ∷ picks) = switches_behind pick.core picks

-- how many steps come under an event
abbrev pub event_count : Option Event → ℕ
event_count None = 0
event_count (Some event) = 1

abbrev pub events_in : List Pick → ℕ
events_in [] = 0
events_in (pick ∷ picks) = event_count pick.event + events_in picks

-- a reader follows four steps of one core as easily as a change of the core, or as an event
abbrev pub cost_of : List Pick → ℕ
cost_of picks = length picks + 4 * switches_of picks + 4 * events_in picks
