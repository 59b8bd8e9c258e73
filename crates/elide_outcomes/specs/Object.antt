-- The object that `elide outcomes --json` prints (docs/JSON.md, "outcomes").
use Rattle.std.specs.Prelude.{ℕ, ◌-◌, Bool, true, false, not, List, codes, length, slice_get, Option, Some, None}
use Rattle.std.specs.Borrow.{Bor}
use Rattle.std.specs.Io.KnownBytes.{Appends}
use Rattle.elide_args.specs.declared.subcommand.OutcomesOptions.{OutcomesOptions}
use Rattle.elide_program.specs.Settings.{has_store_buffer}
use Rattle.elide_object.specs.Object.{list_value, number_value, object_text, schedule_value, text_list}
use Rattle.tm_hist.specs.Lines.{stop_word}
use Rattle.serde_json.specs.Data.{Data, Members, boolean, member, no_members, null, object, string}
use Rattle.tm_outcomes.specs.declared.cycle.Cycle.{Cycle}
use Rattle.tm_outcomes.specs.declared.searching.Search.{Search}
use Rattle.tm_outcomes.specs.declared.stops.ReachedStop.{ReachedStop}
use Rattle.tm_outcomes.specs.declared.stuck.Stuck.{Stuck}
use Rattle.tm_model.specs.declared.outcome.Pick.{Pick}
use Rattle.tm_outcomes.specs.declared.table.FoundOutcome.{FoundOutcome}
use Rattle.tm_outcomes.specs.declared.violations.Violation.{Violation}
use Rattle.elide_outcomes.specs.Verdict.{answer_of, search_status}

-- an outcome: the values, how many states show them, and the steps of a schedule
abbrev pub outcome_value : FoundOutcome → Data
outcome_value told =
    object (member (codes "values") (list_value number_value told.values.items)
    (member (codes "ends") (number_value told.ends)
    (member (codes "schedule") (schedule_value told.schedule.items) no_members)))

-- a stop that was looked for and found: its reason, and the steps of a schedule that leads there
abbrev pub stop_value : ReachedStop → Data
stop_value told =
    object (member (codes "cause") (string (stop_word told.why))
    (member (codes "schedule") (schedule_value told.schedule.items) no_members))

-- states without a way to an end: how many, and the steps of a schedule that leads to one
abbrev pub stuck_value : Option Stuck → Data
stuck_value None = null
stuck_value (Some stuck) =
    object (member (codes "states") (number_value stuck.states)
    (member (codes "schedule") (schedule_value stuck.schedule.items) no_members))

-- states from which a cycle can be made for ever: how many, the steps of a schedule that leads to one, and those of the
-- cycle
abbrev pub cycle_value : Option Cycle → Data
cycle_value None = null
cycle_value (Some cycle) =
    object (member (codes "states") (number_value cycle.states)
    (member (codes "schedule") (schedule_value cycle.schedule.items)
    (member (codes "steps") (schedule_value cycle.steps.items) no_members)))

-- the option that says the check with this index: those of `--check` come first, then those of `--forbid`
abbrev pub option_value : List ℕ → Data → List Pick → Data
option_value name text schedule =
    object (member (codes "option") (string name)
    (member (codes "text") text
    (member (codes "schedule") (schedule_value schedule) no_members)))

abbrev pub forbid_value : Option (Bor (List ℕ)) → List Pick → Data
forbid_value None schedule = option_value (codes "--forbid") null schedule
forbid_value (Some text) schedule = option_value (codes "--forbid") (string text.now) schedule

abbrev pub check_value : OutcomesOptions → ℕ → Option (Bor (List ℕ)) → List Pick → Data
check_value options index None schedule = forbid_value (slice_get options.forbids.items index) schedule
check_value options index (Some text) schedule = option_value (codes "--check") (string text.now) schedule

-- a check that an end violates, and the steps of a schedule that leads there
abbrev pub violation_value : OutcomesOptions → Violation → Data
violation_value options told =
    check_value options (told.check - length options.checks.items) (slice_get options.checks.items told.check)
    told.schedule.items

-- a search of what these words say, with its outcomes in this order, but for the last members
abbrev pub front_members : OutcomesOptions → List (List ℕ) → Search → Members → Members
front_members options show search rest =
    member (codes "format") (number_value 1)
    (member (codes "command") (string (codes "outcomes"))
    (member (codes "show") (text_list show)
    (member (codes "outcomes") (list_value outcome_value search.outcomes.items)
    (member (codes "violations") (list_value (violation_value options) search.violations.items)
    (member (codes "stops") (list_value stop_value search.stops.items)
    (member (codes "stuck") (stuck_value search.stuck)
    (member (codes "cycle") (cycle_value search.cycle)
    (member (codes "states") (number_value search.states)
    (member (codes "whole") (boolean (not search.is_cut)) rest)))))))))

-- where stores may be pending, whether somewhere a step waited for room; and the exit status
abbrev pub last_members : Bool → Bool → ℕ → Members
last_members true waited status =
    member (codes "waited") (boolean waited) (member (codes "status") (number_value status) no_members)
last_members false waited status = member (codes "status") (number_value status) no_members

-- all of it, where stores may be pending, or none may
unfoldable pub search_object : OutcomesOptions → List (List ℕ) → ℕ → Bool → Search → Data
search_object options show status stores search =
    object (front_members options show search (last_members stores search.waited status))

abbrev pub search_value : OutcomesOptions → List (List ℕ) → ℕ → Search → Data
search_value options show status search =
    search_object options show status (has_store_buffer options.machine) search

-- it was written on a line of its own
abbrev pub IsObjectWritten : OutcomesOptions → List (List ℕ) → Search → Option (List ℕ) → Option (List ℕ) → Type 0
IsObjectWritten options words search before after =
    Appends before after
    (object_text (search_value options words (search_status (answer_of options.asks_stuck search)) search))
