-- No value of the object of a search is a float.
use Rattle.std.proofs.Common.{◌≡◌, ℕ, ◌-◌, Bool, Bor, false, true, List, ◌||◌, Option, Some, None, codes, length, refl}
use Rattle.std.specs.Prelude.{slice_get}
use Rattle.elide_args.specs.declared.subcommand.OutcomesOptions.{OutcomesOptions}
use Rattle.tm_model.specs.declared.outcome.Pick.{Pick}
use Rattle.elide_object.proofs.Sending.{no_float_both, no_float_items}
use Rattle.elide_object.specs.Object.{items_of, number_value, word_value}
use Rattle.serde_json.specs.Data.{Data, null, object, string}
use Rattle.serde_json.specs.Written.{has_float, items_have_float}
use Rattle.tm_outcomes.specs.declared.cycle.Cycle.{Cycle}
use Rattle.tm_outcomes.specs.declared.searching.Search.{Search}
use Rattle.tm_outcomes.specs.declared.stops.ReachedStop.{ReachedStop}
use Rattle.tm_outcomes.specs.declared.stuck.Stuck.{Stuck}
use Rattle.tm_outcomes.specs.declared.table.FoundOutcome.{FoundOutcome}
use Rattle.tm_outcomes.specs.declared.violations.Violation.{Violation}
use Rattle.elide_outcomes.specs.Object.{check_value, cycle_value, forbid_value, last_members, option_value}
use Rattle.elide_outcomes.specs.Object.{outcome_value, search_object, stop_value}
use Rattle.elide_outcomes.specs.Object.{stuck_value, violation_value}

no_float_outcome : (told : FoundOutcome) → has_float (outcome_value told) ≡ false
no_float_outcome told =
    no_float_both (items_have_float (items_of number_value told.values.items))
    (items_have_float (items_of word_value told.schedule.items) || false)
    (no_float_items number_value (λ n. refl) told.values.items)
    (no_float_both (items_have_float (items_of word_value told.schedule.items)) false
    (no_float_items word_value (λ pick. refl) told.schedule.items) refl)

no_float_stop : (told : ReachedStop) → has_float (stop_value told) ≡ false
no_float_stop told =
    no_float_both (items_have_float (items_of word_value told.schedule.items)) false
    (no_float_items word_value (λ pick. refl) told.schedule.items) refl

no_float_stuck : (stuck : Option Stuck) → has_float (stuck_value stuck) ≡ false
no_float_stuck None = refl
no_float_stuck (Some stuck) =
    no_float_both (items_have_float (items_of word_value stuck.schedule.items)) false
    (no_float_items word_value (λ pick. refl) stuck.schedule.items) refl

no_float_cycle : (cycle : Option Cycle) → has_float (cycle_value cycle) ≡ false
no_float_cycle None = refl
no_float_cycle (Some cycle) =
    no_float_both (items_have_float (items_of word_value cycle.schedule.items))
    (items_have_float (items_of word_value cycle.steps.items) || false)
    (no_float_items word_value (λ pick. refl) cycle.schedule.items)
    (no_float_both (items_have_float (items_of word_value cycle.steps.items)) false
    (no_float_items word_value (λ pick. refl) cycle.steps.items) refl)

no_float_text : (name : List ℕ) (text : Data) (schedule : List Pick) → has_float text ≡ false →
    has_float (option_value name text schedule) ≡ false
no_float_text name text schedule none =
    no_float_both (has_float text) (items_have_float (items_of word_value schedule) || false) none
    (no_float_both (items_have_float (items_of word_value schedule)) false
    (no_float_items word_value (λ pick. refl) schedule) refl)

no_float_forbid : (text : Option (Bor (List ℕ))) (schedule : List Pick) →
    has_float (forbid_value text schedule) ≡ false
no_float_forbid None schedule = no_float_text (codes "--forbid") null schedule refl
no_float_forbid (Some text) schedule = no_float_text (codes "--forbid") (string text.now) schedule refl

no_float_check : (options : OutcomesOptions) (index : ℕ) (text : Option (Bor (List ℕ))) (schedule : List Pick) →
    has_float (check_value options index text schedule) ≡ false
no_float_check options index None schedule = no_float_forbid (slice_get options.forbids.items index) schedule
no_float_check options index (Some text) schedule =
    no_float_text (codes "--check") (string text.now) schedule refl

no_float_violation : (options : OutcomesOptions) (told : Violation) → has_float (violation_value options told) ≡ false
no_float_violation options told =
    no_float_check options (told.check - length options.checks.items) (slice_get options.checks.items told.check)
    told.schedule.items

no_float_last : (stores waited : Bool) (status : ℕ) → has_float (object (last_members stores waited status)) ≡ false
no_float_last true waited status = refl
no_float_last false waited status = refl

pub no_float_search : (options : OutcomesOptions) (show : List (List ℕ)) (status : ℕ) (stores : Bool) (search : Search)
    → has_float (search_object options show status stores search) ≡ false
unfolding search_object
no_float_search options show status stores search =
    let last : Bool = has_float (object (last_members stores search.waited status)) in
    let outcomes = items_have_float (items_of outcome_value search.outcomes.items) in
    let violations = items_have_float (items_of (violation_value options) search.violations.items) in
    let stops = items_have_float (items_of stop_value search.stops.items) in
    let stuck = has_float (stuck_value search.stuck) in
    let cycle = has_float (cycle_value search.cycle) in
    no_float_both (items_have_float (items_of string show))
    (outcomes || (violations || (stops || (stuck || (cycle || last)))))
    (no_float_items string (λ text. refl) show)
    (no_float_both outcomes (violations || (stops || (stuck || (cycle || last))))
    (no_float_items outcome_value no_float_outcome search.outcomes.items)
    (no_float_both violations (stops || (stuck || (cycle || last)))
    (no_float_items (violation_value options) (no_float_violation options) search.violations.items)
    (no_float_both stops (stuck || (cycle || last)) (no_float_items stop_value no_float_stop search.stops.items)
    (no_float_both stuck (cycle || last) (no_float_stuck search.stuck)
    (no_float_both cycle last (no_float_cycle search.cycle) (no_float_last stores search.waited status))))))
