-- The word of a step: a core number, and behind it the letter of an event, or none (docs/FORMATS.md, "Schedules").
use Rattle.std.specs.Prelude.{ℕ, ◌-◌, ◌<◌, ◌==◌, ◌&&◌, Bool, List, [], ◌∷◌, ◌++◌, length, take, slice_index, is_some}
use Rattle.std.specs.Prelude.{option_map, Option, Some, None, if◌then◌else◌}
use Rattle.std.specs.List.{AllByRecursion, list_any}
use Rattle.text_out.specs.TextLine.{number_text}
use Rattle.tm_model.specs.declared.outcome.Event.{Event}
use Rattle.tm_model.specs.declared.outcome.Pick.{Pick}
use Rattle.tm_model.specs.declared.outcome.Event.TheVariants.{Abort, Drain}
use Rattle.tm_model.specs.declared.outcome.Interference.TheVariants.{Interrupt, Eviction, Snoop}
use Rattle.tm_schedule.specs.declared.schedule.picks.Form.{Form}
use Rattle.tm_schedule.specs.declared.schedule.picks.Form.TheVariants.{Cores, Picks}
use Rattle.tm_schedule.specs.ScheduleNumbers.{core_number}

-- ---- reading

-- the event of a letter: i, e, s or d
abbrev pub event_of : ℕ → Option Event
event_of letter =
    if letter == 105 then Some (Abort Interrupt)
    else if letter == 101 then Some (Abort Eviction)
    else if letter == 115 then Some (Abort Snoop)
    else if letter == 100 then Some Drain
    else None

abbrev pub pick_from : Option ℕ → Option Event → Option Pick
pick_from None event = None
pick_from (Some core) event = Some (record { core = core; event = event })

-- the step that a word says, whose last letter is this event's, or no event's
abbrev pub pick_at : List ℕ → Option Event → Option Pick
pick_at word None = pick_from (core_number word) None
pick_at word (Some event) = pick_from (core_number (take (length word - 1) word)) (Some event)

unfoldable pub pick_of_word : List ℕ → Option Pick
pick_of_word word = pick_at word (event_of (slice_index word (length word - 1)))

-- the step that a word says, where words are core numbers, and where they may have the letter of an event
abbrev pub pick_in : Form → List ℕ → Option Pick
pick_in Cores word = pick_from (core_number word) None
pick_in Picks word = pick_of_word word

-- the step that a word says, one a word, or nothing where it says none; the empty word says no step
unfoldable pub single_steps : Form → List ℕ → Option (List Pick)
single_steps form word = if length word == 0 then Some [] else option_map (λ pick. pick ∷ []) (pick_in form word)

-- ---- writing

-- the letter of an event, and 0 for none
abbrev pub event_letter : Option Event → ℕ
event_letter None = 0
event_letter (Some (Abort Interrupt)) = 105
event_letter (Some (Abort Eviction)) = 101
event_letter (Some (Abort Snoop)) = 115
event_letter (Some Drain) = 100

abbrev pub event_text : Option Event → List ℕ
event_text None = []
event_text (Some event) = event_letter (Some event) ∷ []

-- the word of a step
abbrev pub pick_word : Pick → List ℕ
pick_word pick = number_text pick.core ++ event_text pick.event

-- whether two steps are the same: of one core, and under one event or none
abbrev pub is_same : Pick → Pick → Bool
is_same a b = (a.core == b.core) && (event_letter a.event == event_letter b.event)

-- whether one of these steps comes under an event
abbrev pub has_event : List Pick → Bool
has_event picks = list_any (λ pick. is_some pick.event) picks

-- the cores of these steps are numbers below 256
abbrev pub AreBytes : List Pick → Type 0
AreBytes picks = AllByRecursion (λ (pick : Pick). pick.core < 256) picks
