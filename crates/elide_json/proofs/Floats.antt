-- No value of the objects is a float.
use Rattle.std.proofs.Common.{◌≡◌, ℕ, false, List, Option, Some, None, codes, length, refl}
use Rattle.std.specs.List.{range_with_len}
use Rattle.std.specs.Option.{option_copied}
use Rattle.elide_object.proofs.Sending.{no_float_both, no_float_items}
use Rattle.elide_object.specs.Object.{items_of, number_value}
use Rattle.ia_regs.specs.declared.Regs.{Regs}
use Rattle.serde_json.specs.Data.{Members, boolean, member, string}
use Rattle.serde_json.specs.Written.{has_float, items_have_float, members_have_float}
use Rattle.tm_core.specs.Theorem.{ShownMachine as Machine, view_at}
use Rattle.tm_hist.specs.Lines.{status_of}
use Rattle.tm_model.specs.State.{Pending}
use Rattle.tm_model.specs.declared.outcome.CoreState.{CoreState}
use Rattle.tm_model.specs.declared.outcome.Outcome.{Outcome}
use Rattle.elide_json.specs.Cores.{core_object, core_value, cores_value, flag_names, store_value, stores_members}
use Rattle.elide_json.specs.Cores.{stores_told}
use Rattle.elide_json.specs.Memory.{dump_row, show_row}
use Rattle.elide_json.specs.Objects.{running_value, status_member}
use Rattle.elide_json.specs.Outcomes.{outcome_value}
use Rattle.elide_json.specs.Shown.{sent_members, sent_replay, sent_run, sent_threads}
use Rattle.elide_json.specs.Words.{number_or_null, outcome_event, outcome_stop, state_stop}
use Rattle.elide_object.specs.Object.{text_or_null}
use Rattle.elide_json.specs.declared.objects.ReplayObject.{ReplayObject}
use Rattle.elide_json.specs.declared.objects.RunEnd.{RunEnd}
use Rattle.elide_json.specs.declared.objects.Shown.{Shown}
use Rattle.elide_json.specs.declared.objects.ThreadsObject.{ThreadsObject}

no_float_word : (word : Option (List ℕ)) → has_float (text_or_null word) ≡ false
no_float_word None = refl
no_float_word (Some word) = refl

no_float_number : (number : Option ℕ) → has_float (number_or_null number) ≡ false
no_float_number None = refl
no_float_number (Some number) = refl

pub no_float_outcome : (step core : ℕ) (outcome : Outcome) → has_float (outcome_value step core outcome) ≡ false
unfolding outcome_value
no_float_outcome step core outcome =
    no_float_both (has_float (text_or_null (outcome_stop outcome))) _ (no_float_word (outcome_stop outcome))
    (no_float_both (has_float (number_or_null (status_of outcome))) _ (no_float_number (status_of outcome))
    (no_float_both (has_float (text_or_null (outcome_event outcome))) false
    (no_float_word (outcome_event outcome)) refl))

no_float_stores : (stores : Option Pending) → members_have_float (stores_members stores) ≡ false
no_float_stores None = refl
no_float_stores (Some pending) =
    no_float_both (items_have_float (items_of store_value pending)) false
    (no_float_items store_value (λ store. refl) pending) refl

pub no_float_core : (core : ℕ) (state : CoreState) (regs : Regs) (stores : Option Pending) →
    has_float (core_object core state regs stores) ≡ false
unfolding core_object
no_float_core core state regs stores =
    no_float_both (has_float (text_or_null (state_stop state))) _ (no_float_word (state_stop state))
    (no_float_both (items_have_float (items_of string (flag_names regs.flags))) _
    (no_float_items string (λ name. refl) (flag_names regs.flags)) (no_float_stores stores))

no_float_cores : (machine : Machine) → has_float (cores_value machine) ≡ false
no_float_cores machine =
    no_float_items (core_value machine)
    (λ core. no_float_core core (view_at machine core).mode (view_at machine core).regs (stores_told machine core))
    (range_with_len 0 (length machine.views))

no_float_running : (running : Option (List ℕ)) → has_float (running_value running) ≡ false
no_float_running None = refl
no_float_running (Some cores) = no_float_items number_value (λ core. refl) cores

-- those of the state, and of what stands behind it
no_float_shown : (shown : Shown) (others : Members) → members_have_float others ≡ false →
    members_have_float (sent_members shown others) ≡ false
no_float_shown shown others none =
    no_float_both (has_float (cores_value shown.machine.now)) _ (no_float_cores shown.machine.now)
    (no_float_both (items_have_float (items_of dump_row shown.dumps.now)) _
    (no_float_items dump_row (λ row. refl) shown.dumps.now)
    (no_float_both (items_have_float (items_of show_row shown.shows.now)) _
    (no_float_items show_row (λ row. refl) shown.shows.now) none))

pub no_float_run : (o : RunEnd) → has_float (sent_run o) ≡ false
no_float_run o =
    no_float_shown o.shown (member (codes "running") (running_value (option_copied o.running)) (status_member o.status))
    (no_float_both (has_float (running_value (option_copied o.running))) false
    (no_float_running (option_copied o.running)) refl)

pub no_float_replay : (o : ReplayObject) → has_float (sent_replay o) ≡ false
no_float_replay o = no_float_shown o.shown (member (codes "agree") (boolean o.agrees) (status_member o.status)) refl

pub no_float_threads : (o : ThreadsObject) → has_float (sent_threads o) ≡ false
no_float_threads o = no_float_shown o.shown (status_member 0) refl
