-- No value of the object of a search is a float.
use Rattle.std.proofs.Common.{◌≡◌, ℕ, ◌-◌, Bool, true, false, List, ◌||◌, Option, Some, None, codes, length, refl}
use Rattle.std.specs.Borrow.{Bor}
use Rattle.std.specs.Prelude.{if◌then◌else◌, nat_lt, slice_get}
use Rattle.elide_args.specs.declared.hunt_options.HuntOptions.{HuntOptions}
use Rattle.elide_object.proofs.Sending.{no_float_both, no_float_items}
use Rattle.elide_object.specs.Object.{items_of, schedule_value, word_value}
use Rattle.elide_program.specs.Settings.{has_store_buffer}
use Rattle.serde_json.specs.Data.{Data, member, no_members, null, string}
use Rattle.serde_json.specs.Written.{has_float, items_have_float, members_have_float}
use Rattle.tm_model.specs.declared.outcome.Pick.{Pick}
use Rattle.tm_hunt.specs.Cycle.{loop_of}
use Rattle.tm_hunt.specs.Deciding.{deciding}
use Rattle.tm_hunt.specs.declared.cycle.Cycle.{Cycle}
use Rattle.tm_hunt.specs.declared.searching.Found.{Found}
use Rattle.elide_hunt.specs.Object.{check_value, cycle_value, failure_value, forbid_value, hunt_value, loop_value}
use Rattle.elide_hunt.specs.Object.{late_value, lates_then, option_of, stop_value}
use Rattle.elide_hunt.specs.Sent.{failure_of, object_value}
use Rattle.elide_hunt.specs.declared.late.Late.{Late}
use Rattle.elide_hunt.specs.declared.report.Beside.{Beside}
use Rattle.elide_hunt.specs.declared.sending.FailureObject.{FailureObject}
use Rattle.elide_hunt.specs.declared.sending.HuntObject.{HuntObject}

no_float_stop : (text : Option (Bor (List ℕ))) → has_float (stop_value text) ≡ false
no_float_stop None = refl
no_float_stop (Some text) = refl

no_float_forbid : (stops : List (Bor (List ℕ))) (index : ℕ) (text : Option (Bor (List ℕ))) →
    has_float (forbid_value stops index text) ≡ false
no_float_forbid stops index None = no_float_stop (slice_get stops index)
no_float_forbid stops index (Some text) = refl

no_float_option : (options : HuntOptions) (index : ℕ) (text : Option (Bor (List ℕ))) →
    has_float (option_of options index text) ≡ false
no_float_option options index None =
    no_float_forbid options.stops.items (index - length options.forbids.items) (slice_get options.forbids.items index)
no_float_option options index (Some text) = refl

no_float_loop : (steps : List Pick) → has_float (loop_value steps) ≡ false
no_float_loop steps =
    elim (nat_lt 64 (length steps)) as (λ is_long. has_float (if is_long then null else schedule_value steps) ≡ false) [
      | true ↦ refl
      | false ↦ no_float_items word_value (λ pick. refl) steps
    ]

no_float_cycle : (picks : List Pick) (cycle : Option Cycle) → has_float (cycle_value picks cycle) ≡ false
no_float_cycle picks None = refl
no_float_cycle picks (Some cycle) =
    let steps = loop_of picks cycle in
    no_float_both (has_float (loop_value steps)) false (no_float_loop steps) refl

no_float_rest : (may_pend : Bool) (lates : List Late) (replay : List ℕ) →
    members_have_float (lates_then may_pend lates (member (codes "replay") (string replay) no_members)) ≡ false
no_float_rest false lates replay = refl
no_float_rest true lates replay =
    no_float_both (items_have_float (items_of late_value lates)) false
    (no_float_items late_value (λ late. refl) lates) refl

no_float_failure : (options : HuntOptions) (beside : Beside) (replay : List ℕ) (found : Found) →
    has_float (failure_value options beside replay found) ≡ false
no_float_failure options beside replay found =
    let steps = items_of word_value (deciding found.failure) in
    let picks = found.failure.picks.items in
    let cycle = has_float (cycle_value picks beside.cycle) in
    let rest = members_have_float (lates_then (has_store_buffer options.machine) beside.lates.items (member
    (codes "replay") (string replay) no_members)) in
    no_float_both (has_float (check_value options found.failure.check)) (items_have_float steps || (cycle || rest))
    (no_float_option options (found.failure.check - length options.checks.items)
    (slice_get options.checks.items found.failure.check))
    (no_float_both (items_have_float steps) (cycle || rest)
    (no_float_items word_value (λ pick. refl) (deciding found.failure))
    (no_float_both cycle rest (no_float_cycle picks beside.cycle)
    (no_float_rest (has_store_buffer options.machine) beside.lates.items replay)))

no_float_of : (failure : Option FailureObject) → has_float (failure_of failure) ≡ false
no_float_of None = refl
no_float_of (Some o) = no_float_failure o.options.now o.beside.now o.replay.now o.found.now

no_float_hunt : (ended cut : ℕ) (failure : Data) (status : ℕ) → has_float failure ≡ false →
    has_float (hunt_value ended cut failure status) ≡ false
unfolding hunt_value
no_float_hunt ended cut failure status none = no_float_both (has_float failure) false none refl

pub no_float_object : (o : HuntObject) → has_float (object_value o) ≡ false
no_float_object o = no_float_hunt o.ended o.cut (failure_of o.failure) _ (no_float_of o.failure)
