-- Whether a search has found what is wrong (docs/FORMATS.md, "Outcomes").
use Rattle.std.specs.Prelude.{ℕ, ◌&&◌, ◌||◌, Bool, List, is_some, length, nat_lt, if◌then◌else◌}
use Rattle.tm_outcomes.specs.declared.searching.Search.{Search}
use Rattle.tm_outcomes.specs.declared.stops.ReachedStop.{ReachedStop}
use Rattle.tm_outcomes.specs.declared.violations.Violation.{Violation}
use Rattle.elide_outcomes.specs.declared.verdict.Answer.{Answer}
use Rattle.elide_outcomes.specs.declared.verdict.Answer.TheVariants.{Cut, Faulty, Whole}

abbrev pub has_stops : List ReachedStop → Bool
has_stops stops = nat_lt 0 (length stops)

abbrev pub has_violations : List Violation → Bool
has_violations violations = nat_lt 0 (length violations)

-- an end that violates a check, a stop that was looked for, or, where it is asked for, a state without a way to an end
-- or a cycle that can be made for ever
abbrev pub is_faulty : Bool → Search → Bool
is_faulty asks_stuck search =
    (has_violations search.violations.items || has_stops search.stops.items)
    || (asks_stuck && (is_some search.stuck || is_some search.cycle))

abbrev pub answer_of : Bool → Search → Answer
answer_of asks_stuck search =
    if search.is_cut then Cut else (if is_faulty asks_stuck search then Faulty else Whole)

-- the exit status
abbrev pub search_status : Answer → ℕ
search_status Whole = 0
search_status Cut = 3
search_status Faulty = 3
