-- The lines that are noted before a step cover what the step stores to.
use Rattle.std.proofs.Common.{◌≡◌, ◌⊎◌, inl, inr, ℕ, suc, ◌<◌, ◌/◌, Bool, true, false, cond, List, [], ◌∷◌, Option}
use Rattle.std.proofs.Common.{Some, None, get_or}
use Rattle.std.proofs.Common.{length, map}
use Rattle.std.proofs.Common.{refl, sym, ap, ◌∙◌, subst}
use Rattle.std.specs.Prelude.{Contains, nat_eq, option_and_then, option_map, slice_index}
use Rattle.std.specs.List.{list_any}
use Rattle.std.specs.FinSet as set
use Rattle.std.proofs.lemmas.Bool.{eq-eqb, eqb-true, false≢true}
use Rattle.std.proofs.lemmas.List.{get_or-map, get_or_default, length-map}
use Rattle.std.proofs.lemmas.List.Folds.{Any-from_list_any, list_any_at}
use Rattle.ia_regs.specs.declared.Regs.{Regs}
use Rattle.ia_word.specs.Line.{line}
use Rattle.ia_word.specs.Operand.{operand_bytes, placed_bytes}
use Rattle.ia_word.specs.declared.width.Width.{Width}
use Rattle.ia_word.specs.declared.width.Width.TheVariants.{B, D}
use Rattle.tm_rule.specs.declared.kinds.OutsideResult.{OutsideResult}
use Rattle.tm_rule.specs.declared.kinds.OutsideResult.TheVariants.{Goes, Begins, Stops}
use Rattle.tm_rule.specs.declared.kinds.Stop.{Stop}
use Rattle.tm_core.specs.Reopening.{IsSameElsewhere}
use Rattle.tm_model.specs.Access.{Lines, addresses_of, lines_of, loaded_addresses, memory_after, stored_addresses}
use Rattle.tm_model.specs.Access.{stores_of}
use Rattle.tm_model.specs.Conflicts.{addresses_drained}
use Rattle.tm_model.specs.Explained.{addresses_stored_at}
use Rattle.tm_model.specs.Isolated.{Body, isolated_body, write_set}
use Rattle.tm_model.specs.Owed.{owed_outcome, owed_under}
use Rattle.tm_model.specs.Setting.{Setting, outside_at, value_at}
use Rattle.tm_model.specs.Shown.{View, view_inside, view_midway, view_of, view_of_body, view_outside}
use Rattle.tm_model.specs.State.{Closed, Core, Halted, Midway, Opened, Pending, with_store}
use Rattle.tm_model.specs.Steps.{Next, after_load, after_plain, after_step, after_step_of, settled}
use Rattle.tm_model.specs.Types.{Store}
use Rattle.tm_model.specs.declared.outcome.Event.{Event}
use Rattle.tm_model.specs.declared.outcome.Event.TheVariants as event
use Rattle.tm_model.specs.declared.outcome.CoreState.{CoreState}
use Rattle.tm_model.specs.declared.outcome.CoreState.TheVariants.{Running, Mid, Condemned, Stopped as AtStop}
use Rattle.tm_model.specs.declared.outcome.Outcome.{Outcome}
use Rattle.tm_model.specs.declared.outcome.Outcome.TheVariants.{Plain, Loaded, Stopped, Idle, Begun, Inside}
use Rattle.tm_model.specs.declared.outcome.Outcome.TheVariants.{Committed, Aborted, AbortedBy, Drained}
use Rattle.tm_model.specs.declared.outcome.Pick.{Pick}
use Rattle.tm_outcomes.specs.Places.{is_open}
use Rattle.tm_outcomes.specs.Schedules.{Situation, after_pick, owed_by}
use Rattle.tm_outcomes.specs.Written.{StoresOn}
use Rattle.tm_outcomes.proofs.Crossing.{picked}
use Rattle.tm_outcomes.proofs.Somes.{same_in}
use Rattle.tm_outcomes.proofs.Stored.{IsCommit, IsSameBut, Made, before_commit, begun, committed, else_of, halted}
use Rattle.tm_outcomes.proofs.Stored.{keeps}
use Rattle.tm_outcomes.proofs.Stored.{left, loaded, on_lines, plain, stored, then_of}

-- ---- by the core

pub untouched : (lines memory other : List ℕ) → memory ≡ other → IsSameElsewhere lines memory other
untouched lines memory other e =
    record { count = ap length e; same = λ address. inr (ap (λ (m : List ℕ). slice_index m address) e) }

-- a line of a set that was listed
listed : (lines addresses : List ℕ) → set.from_list lines ≡ lines_of addresses
    → (address : ℕ) → Contains addresses address →
    Contains lines (address / 64)
listed lines addresses same address (k, below, is) =
    let q : ℕ = address / 64 in
    let at : get_or (map line addresses) k q ≡ q = get_or-map line addresses k address q below ∙ ap line is in
    let among : list_any (λ y. nat_eq y q) (map line addresses) ≡ true =
    list_any_at (λ y. nat_eq y q) (map line addresses) k q (subst (λ n. k < n) (sym (length-map addresses line)) below)
    (eq-eqb (get_or (map line addresses) k q) q at) in
    let in_lines : list_any (λ y. nat_eq y q) lines ≡ true =
    sym (set.contains-from_list_nat lines q)
    ∙ (ap (λ (s : Lines). set.contains s q) same ∙ (set.contains-from_list_nat (map line addresses) q ∙ among)) in
    let any = Any-from_list_any (λ y. nat_eq y q) lines in_lines in
    let equal : any.1 ≡ q = eqb-true any.1 q any.4 in
    (any.0, any.2, get_or_default lines any.0 q any.1 any.2 ∙ (any.3 ∙ equal))

-- a body that has not ended, and the lines that it has stored to
pub record IsBody (setting : Setting) (memory : List ℕ) (regs : Regs) (steps : ℕ) (view : View) : Type 0 where
  pub body : Body
  pub is_body : isolated_body setting regs memory steps ≡ Some body
  pub goes : nat_eq body.depth 0 ≡ false
  pub writes : view.writes ≡ write_set body

on_commit : (setting : Setting) (memory : List ℕ) (regs : Regs) (steps : ℕ) (view : View) (lines : List ℕ) →
    IsBody setting memory regs steps view → set.from_list lines ≡ view.writes → (made : Made) →
    IsCommit memory (isolated_body setting regs memory (suc steps)) made → IsSameElsewhere lines made.0 memory
on_commit setting memory regs steps view lines here all made commit =
    let stores : commit.last.stores ≡ here.body.stores =
    before_commit setting memory regs steps here.body commit.last here.is_body commit.is_last here.goes commit.closed in
    subst (λ m. IsSameElsewhere lines m memory) (sym (commit.stored ∙ ap (memory_after memory) stores))
    (on_lines (stored_addresses here.body.stores) lines (memory_after memory here.body.stores) memory
    (stored memory here.body.stores) (listed lines (stored_addresses here.body.stores) (all ∙ here.writes)))

closed : (setting : Setting) (memory : List ℕ) (regs : Regs) (outcome : Outcome) (made : Made) →
    after_step_of setting memory (Closed regs) outcome ≡ Some made →
    IsSameBut (addresses_stored_at setting memory (Closed regs) outcome) made.0 memory
closed setting memory regs Plain made e =
    plain memory (outside_at setting regs memory) made
    (else_of (setting.takes_two_steps regs) (after_plain memory (outside_at setting regs memory)) made e)
closed setting memory regs Loaded made e =
    keeps [] made.0 memory (loaded memory regs (value_at setting regs memory) (outside_at setting regs memory) made
    (then_of (setting.takes_two_steps regs)
    (after_load memory regs (value_at setting regs memory) (outside_at setting regs memory)) made e))
closed setting memory regs (Stopped stop) made e =
    keeps [] made.0 memory (halted memory regs stop (outside_at setting regs memory) made e)
closed setting memory regs Idle made e = absurd (cc)
closed setting memory regs Begun made e =
    keeps [] made.0 memory (begun memory regs (outside_at setting regs memory) made e)
closed setting memory regs Inside made e = absurd (cc)
closed setting memory regs Committed made e = absurd (cc)
closed setting memory regs (Aborted status) made e = absurd (cc)
closed setting memory regs (AbortedBy by status) made e = absurd (cc)
closed setting memory regs Drained made e = absurd (cc)

midway : (setting : Setting) (memory : List ℕ) (regs : Regs) (value : ℕ) (outcome : Outcome) (made : Made) →
    after_step_of setting memory (Midway regs value) outcome ≡ Some made →
    IsSameBut (addresses_stored_at setting memory (Midway regs value) outcome) made.0 memory
midway setting memory regs value Plain made e = plain memory (setting.outside regs value) made e
midway setting memory regs value Loaded made e = absurd (cc)
midway setting memory regs value (Stopped stop) made e = absurd (cc)
midway setting memory regs value Idle made e = absurd (cc)
midway setting memory regs value Begun made e = absurd (cc)
midway setting memory regs value Inside made e = absurd (cc)
midway setting memory regs value Committed made e = absurd (cc)
midway setting memory regs value (Aborted status) made e = absurd (cc)
midway setting memory regs value (AbortedBy by status) made e = absurd (cc)
midway setting memory regs value Drained made e = absurd (cc)

stopped : (setting : Setting) (memory : List ℕ) (regs : Regs) (stop : Stop) (outcome : Outcome) (made : Made) →
    after_step_of setting memory (Halted regs stop) outcome ≡ Some made →
    IsSameBut (addresses_stored_at setting memory (Halted regs stop) outcome) made.0 memory
stopped setting memory regs stop Plain made e = absurd (cc)
stopped setting memory regs stop Loaded made e = absurd (cc)
stopped setting memory regs stop (Stopped why) made e = absurd (cc)
stopped setting memory regs stop Idle made e = keeps [] made.0 memory (left memory (Halted regs stop) made e)
stopped setting memory regs stop Begun made e = absurd (cc)
stopped setting memory regs stop Inside made e = absurd (cc)
stopped setting memory regs stop Committed made e = absurd (cc)
stopped setting memory regs stop (Aborted status) made e = absurd (cc)
stopped setting memory regs stop (AbortedBy by status) made e = absurd (cc)
stopped setting memory regs stop Drained made e = absurd (cc)

opened : (setting : Setting) (memory : List ℕ) (regs : Regs) (steps : ℕ) (view : View) (lines : List ℕ) →
    IsBody setting memory regs steps view → set.from_list lines ≡ view.writes → (outcome : Outcome) (made : Made) →
    after_step_of setting memory (Opened regs steps) outcome ≡ Some made → IsSameElsewhere lines made.0 memory
opened setting memory regs steps view lines body all Plain made e = absurd (cc)
opened setting memory regs steps view lines body all Loaded made e = absurd (cc)
opened setting memory regs steps view lines body all (Stopped stop) made e = absurd (cc)
opened setting memory regs steps view lines body all Idle made e = absurd (cc)
opened setting memory regs steps view lines body all Begun made e = absurd (cc)
opened setting memory regs steps view lines body all Inside made e =
    untouched lines made.0 memory (left memory (Opened regs (suc steps)) made e)
opened setting memory regs steps view lines body all Committed made e =
    on_commit setting memory regs steps view lines body all made
    (committed memory (isolated_body setting regs memory (suc steps)) made e)
opened setting memory regs steps view lines body all (Aborted status) made e =
    untouched lines made.0 memory (ap (λ (x : Made). x.0) (sym (same_in e)))
opened setting memory regs steps view lines body all (AbortedBy by status) made e =
    untouched lines made.0 memory (ap (λ (x : Made). x.0) (sym (same_in e)))
opened setting memory regs steps view lines body all Drained made e = absurd (cc)

-- ---- what is shown of a core tells which of these it is

by_body : (setting : Setting) (memory : List ℕ) (regs : Regs) (steps : ℕ) (view : View) (body : Body) (ended : Bool) →
    isolated_body setting regs memory steps ≡ Some body → nat_eq body.depth 0 ≡ ended →
    cond ended None (Some (view_of_body regs body)) ≡ Some view → IsBody setting memory regs steps view
by_body setting memory regs steps view body true is_body is e = absurd (cc)
by_body setting memory regs steps view body false is_body is e = record {
  body = body;
  is_body = is_body;
  goes = is;
  writes = ap (λ (v : View). v.writes) (sym (same_in e));
}

has_body : (setting : Setting) (memory : List ℕ) (regs : Regs) (steps : ℕ) (view : View) (body : Option Body) →
    isolated_body setting regs memory steps ≡ body → option_and_then (view_inside regs) body ≡ Some view →
    IsBody setting memory regs steps view
has_body setting memory regs steps view (Some body) is_body e =
    by_body setting memory regs steps view body (nat_eq body.depth 0) is_body refl e
has_body setting memory regs steps view None is_body e = absurd (cc)

outside_mode : (mode : CoreState) (regs : Regs) (view : View) → Some (view_outside mode regs) ≡ Some view
    → view.mode ≡ mode
outside_mode mode regs view e = ap (λ (v : View). v.mode) (sym (same_in e))

midway_mode : (regs : Regs) (value : ℕ) (result : OutsideResult) (view : View)
    → view_midway regs value result ≡ Some view → view.mode ≡ Mid
midway_mode regs value (Goes next store) view e = ap (λ (v : View). v.mode) (sym (same_in e))
midway_mode regs value (Begins next) view e = absurd (cc)
midway_mode regs value (Stops stop) view e = absurd (cc)

of_depth : (regs : Regs) (body : Body) (ended : Bool) (view : View)
    → cond ended None (Some (view_of_body regs body)) ≡ Some view →
    is_open view.mode ≡ true
of_depth regs body true view e = absurd (cc)
of_depth regs body false view e = ap (λ (v : View). is_open v.mode) (sym (same_in e))

open_mode : (regs : Regs) (body : Option Body) (view : View) → option_and_then (view_inside regs) body ≡ Some view →
    is_open view.mode ≡ true
open_mode regs (Some body) view e = of_depth regs body (nat_eq body.depth 0) view e
open_mode regs None view e = absurd (cc)

not_open : {X : Type 0} (mode : CoreState) (view : View) → is_open mode ≡ false → view.mode ≡ mode
    → is_open view.mode ≡ true → X
not_open mode view goes is opens = absurd (false≢true (sym goes ∙ (ap is_open (sym is) ∙ opens)))

-- of a core in a transaction that is not doomed, the lines of its write set
pub open_noted : (by : Option Event) (setting : Setting) (memory : List ℕ) (core : Core) (doom : Option ℕ) (view : View)
    (lines : List ℕ) →
    view_of setting memory core doom ≡ Some view → is_open view.mode ≡ true → set.from_list lines ≡ view.writes →
    (made : Made) → after_step_of setting memory core (owed_under by setting memory [] core doom) ≡ Some made →
    IsSameElsewhere lines made.0 memory
open_noted by setting memory (Opened regs steps) None view lines shown opens all made e =
    opened setting memory regs steps view lines
    (has_body setting memory regs steps view (isolated_body setting regs memory steps) refl shown) all
    (owed_under by setting memory [] (Opened regs steps) None) made e
open_noted by setting memory (Opened regs steps) (Some depth) view lines shown opens all made e =
    not_open (Condemned depth) view refl (outside_mode (Condemned depth) regs view shown) opens
open_noted by setting memory (Closed regs) None view lines shown opens all made e =
    not_open Running view refl (outside_mode Running regs view shown) opens
open_noted by setting memory (Midway regs value) None view lines shown opens all made e =
    not_open Mid view refl (midway_mode regs value (setting.outside regs value) view shown) opens
open_noted by setting memory (Halted regs stop) None view lines shown opens all made e =
    not_open (AtStop stop) view refl (outside_mode (AtStop stop) regs view shown) opens
open_noted by setting memory (Closed regs) (Some depth) view lines shown opens all made e = absurd (cc)
open_noted by setting memory (Midway regs value) (Some depth) view lines shown opens all made e = absurd (cc)
open_noted by setting memory (Halted regs stop) (Some depth) view lines shown opens all made e = absurd (cc)

-- of any other, what its step is told to reach
pub reach_noted : (by : Option Event) (setting : Setting) (memory : List ℕ) (core : Core)
    (doom : Option ℕ) (view : View) →
    view_of setting memory core doom ≡ Some view → is_open view.mode ≡ false →
    (made : Made) → after_step_of setting memory core (owed_under by setting memory [] core doom) ≡ Some made →
    IsSameBut (addresses_stored_at setting memory core (owed_outcome setting memory core doom)) made.0 memory
reach_noted None setting memory (Closed regs) doom view shown closes made e =
    closed setting memory regs (owed_outcome setting memory (Closed regs) doom) made e
reach_noted (Some event.Drain) setting memory (Closed regs) doom view shown closes made e =
    closed setting memory regs (owed_outcome setting memory (Closed regs) doom) made e
reach_noted (Some (event.Abort by)) setting memory (Closed regs) doom view shown closes made e =
    closed setting memory regs (owed_outcome setting memory (Closed regs) doom) made e
reach_noted None setting memory (Midway regs value) doom view shown closes made e =
    midway setting memory regs value (owed_outcome setting memory (Midway regs value) doom) made e
reach_noted (Some event.Drain) setting memory (Midway regs value) doom view shown closes made e =
    midway setting memory regs value (owed_outcome setting memory (Midway regs value) doom) made e
reach_noted (Some (event.Abort by)) setting memory (Midway regs value) doom view shown closes made e =
    midway setting memory regs value (owed_outcome setting memory (Midway regs value) doom) made e
reach_noted None setting memory (Halted regs stop) doom view shown closes made e =
    stopped setting memory regs stop (owed_outcome setting memory (Halted regs stop) doom) made e
reach_noted (Some event.Drain) setting memory (Halted regs stop) doom view shown closes made e =
    stopped setting memory regs stop (owed_outcome setting memory (Halted regs stop) doom) made e
reach_noted (Some (event.Abort by)) setting memory (Halted regs stop) doom view shown closes made e =
    stopped setting memory regs stop (owed_outcome setting memory (Halted regs stop) doom) made e
reach_noted None setting memory (Opened regs steps) (Some depth) view shown closes made e =
    keeps [] made.0 memory (ap (λ (x : Made). x.0) (sym (same_in e)))
reach_noted (Some event.Drain) setting memory (Opened regs steps) (Some depth) view shown closes made e =
    keeps [] made.0 memory (ap (λ (x : Made). x.0) (sym (same_in e)))
reach_noted (Some (event.Abort by)) setting memory (Opened regs steps) (Some depth) view shown closes made e =
    keeps [] made.0 memory (ap (λ (x : Made). x.0) (sym (same_in e)))
reach_noted by setting memory (Opened regs steps) None view shown closes made e =
    absurd (false≢true (sym closes ∙ open_mode regs (isolated_body setting regs memory steps) view shown))

-- ---- a step of a core of which no store is pending

-- memory stays, as what is stored is pending then, or it is what the step makes of it
pub data IsMadeOn (setting : Setting) (memory : List ℕ) (core : Core) (outcome : Outcome) (after : List ℕ)
    : Type 0 where
  stays : after ≡ memory → IsMadeOn setting memory core outcome after
  makes : (made : Made) → after_step_of setting memory core outcome ≡ Some made → after ≡ made.0
      → IsMadeOn setting memory core outcome after

settled_on : (setting : Setting) (memory : List ℕ) (core : Core) (outcome : Outcome) (store : Option Store)
    (change : Option Made) (to : Next) → after_step_of setting memory core outcome ≡ change →
    option_map (settled memory [] store) change ≡ Some to → IsMadeOn setting memory core outcome to.0
settled_on setting memory core outcome (Some store) (Some change) to is e =
    stays (ap (λ (x : Next). x.0) (sym (same_in e)))
settled_on setting memory core outcome None (Some change) to is e =
    makes change is (ap (λ (x : Next). x.0) (sym (same_in e)))
settled_on setting memory core outcome store None to is e = absurd (cc)

made_on : (setting : Setting) (memory : List ℕ) (core : Core) (outcome : Outcome) (to : Next) →
    after_step setting memory [] core outcome ≡ Some to → IsMadeOn setting memory core outcome to.0
made_on setting memory core Drained to e = absurd (cc)
made_on setting memory core Plain to e = settled_on setting memory core Plain _ _ to refl e
made_on setting memory core Loaded to e = settled_on setting memory core Loaded _ _ to refl e
made_on setting memory core (Stopped stop) to e = settled_on setting memory core (Stopped stop) _ _ to refl e
made_on setting memory core Idle to e = settled_on setting memory core Idle _ _ to refl e
made_on setting memory core Begun to e = settled_on setting memory core Begun _ _ to refl e
made_on setting memory core Inside to e = settled_on setting memory core Inside _ _ to refl e
made_on setting memory core Committed to e = settled_on setting memory core Committed _ _ to refl e
made_on setting memory core (Aborted status) to e = settled_on setting memory core (Aborted status) _ _ to refl e
made_on setting memory core (AbortedBy by status) to e =
    settled_on setting memory core (AbortedBy by status) _ _ to refl e

pub step_made : (setting : Setting) (now next : Situation) (core : ℕ) (by : Option Event) →
    now.state.pending core ≡ [] → after_pick setting now (record { core = core; event = by }) ≡ Some next →
    IsMadeOn setting now.state.memory (now.state.cores core)
    (owed_under by setting now.state.memory [] (now.state.cores core) (now.doomed core)) next.state.memory
step_made setting now next core by left e =
    let pick : Pick = record { core = core; event = by } in
    let memory : List ℕ = now.state.memory in
    let own : Core = now.state.cores core in
    let step = picked setting now next pick e in
    let owed : owed_by setting now pick ≡ owed_under by setting memory [] own (now.doomed core) =
    ap (λ (q : Pending). owed_under by setting memory q own (now.doomed core)) left in
    let goes : after_step setting memory [] own (owed_under by setting memory [] own (now.doomed core)) ≡ Some step.to =
    ap (after_step setting memory [] own) (sym owed)
    ∙ (ap (λ (q : Pending). after_step setting memory q own (owed_by setting now pick)) (sym left) ∙ step.is_to) in
    subst (λ (after : List ℕ).
    IsMadeOn setting memory own (owed_under by setting memory [] own (now.doomed core)) after)
    (ap (λ (x : Situation). x.state.memory) (sym step.is_next))
    (made_on setting memory own (owed_under by setting memory [] own (now.doomed core)) step.to goes)

-- ---- a step of a core of which a store is pending

-- memory stays, or the oldest store reaches it
settled_behind : (memory : List ℕ) (oldest : Store) (younger : Pending) (waits : Bool) (store : Option Store)
    (change : Option Made) (to : Next) →
    cond waits None (option_map (settled memory (oldest ∷ younger) store) change) ≡ Some to → to.0 ≡ memory
settled_behind memory oldest younger true store change to e = absurd (cc)
settled_behind memory oldest younger false (Some store) (Some change) to e =
    ap (λ (x : Next). x.0) (sym (same_in e))
settled_behind memory oldest younger false None (Some change) to e = ap (λ (x : Next). x.0) (sym (same_in e))
settled_behind memory oldest younger false store None to e = absurd (cc)

made_behind : (setting : Setting) (memory : List ℕ) (oldest : Store) (younger : Pending) (core : Core)
    (outcome : Outcome) (to : Next) → after_step setting memory (oldest ∷ younger) core outcome ≡ Some to →
    (to.0 ≡ memory) ⊎ (to.0 ≡ with_store memory oldest)
made_behind setting memory oldest younger core Drained to e = inr (ap (λ (x : Next). x.0) (sym (same_in e)))
made_behind setting memory oldest younger core Plain to e = inl (settled_behind memory oldest younger _ _ _ to e)
made_behind setting memory oldest younger core Loaded to e = inl (settled_behind memory oldest younger _ _ _ to e)
made_behind setting memory oldest younger core (Stopped stop) to e =
    inl (settled_behind memory oldest younger _ _ _ to e)
made_behind setting memory oldest younger core Idle to e = inl (settled_behind memory oldest younger _ _ _ to e)
made_behind setting memory oldest younger core Begun to e = inl (settled_behind memory oldest younger _ _ _ to e)
made_behind setting memory oldest younger core Inside to e = inl (settled_behind memory oldest younger _ _ _ to e)
made_behind setting memory oldest younger core Committed to e = inl (settled_behind memory oldest younger _ _ _ to e)
made_behind setting memory oldest younger core (Aborted status) to e =
    inl (settled_behind memory oldest younger _ _ _ to e)
made_behind setting memory oldest younger core (AbortedBy by status) to e =
    inl (settled_behind memory oldest younger _ _ _ to e)

-- so the lines of the oldest are all that it can store to
pub pending_noted : (setting : Setting) (lines : List ℕ) (now : Situation) (core : ℕ) (oldest : Store)
    (younger : Pending) → now.state.pending core ≡ oldest ∷ younger →
    ((address : ℕ) → Contains (addresses_drained (oldest ∷ younger)) address → Contains lines (address / 64)) →
    StoresOn setting lines now core
pending_noted setting lines now core oldest younger is all event next e =
    let pick : Pick = record { core = core; event = event } in
    let memory : List ℕ = now.state.memory in
    let step = picked setting now next pick e in
    let goes : after_step setting memory (oldest ∷ younger) (now.state.cores core) (owed_by setting now pick)
    ≡ Some step.to =
    ap (λ (q : Pending). after_step setting memory q (now.state.cores core) (owed_by setting now pick)) (sym is)
    ∙ step.is_to in
    subst (λ (after : List ℕ). IsSameElsewhere lines after memory)
    (ap (λ (x : Situation). x.state.memory) (sym step.is_next))
    (elim (made_behind setting memory oldest younger (now.state.cores core) (owed_by setting now pick) step.to goes) [
      | inl same ↦ untouched lines step.to.0 memory same
      | inr drains ↦
          subst (λ (after : List ℕ). IsSameElsewhere lines after memory) (sym drains)
          (on_lines (addresses_drained (oldest ∷ younger)) lines (with_store memory oldest) memory
          (stored memory (stores_of (Some oldest))) all)
    ])

-- they are those of a load of as many bytes
pub drained_is : (oldest : Store) (younger : Pending) → addresses_drained (oldest ∷ younger)
    ≡ loaded_addresses (Some (record { addr = oldest.addr; width = oldest.width }))
drained_is oldest younger = by_width oldest.width oldest.addr oldest.value
  where
    by_width : (width : Width) (addr value : ℕ)
        → stored_addresses (placed_bytes addr (operand_bytes width value)) ≡ addresses_of addr width
    by_width B addr value = refl
    by_width D addr value = refl

-- ---- all that is noted before a step

-- lines that were noted for what is pending, and then for a step with none pending
pub both_noted : (setting : Setting) (lines : List ℕ) (now : Situation) (core : ℕ) →
    ((address : ℕ) → Contains (addresses_drained (now.state.pending core)) address → Contains lines (address / 64)) →
    (now.state.pending core ≡ [] → StoresOn setting lines now core) → StoresOn setting lines now core
both_noted setting lines now core drained alone = by_pending (now.state.pending core) refl
  where
    by_pending : (pending : Pending) → now.state.pending core ≡ pending → StoresOn setting lines now core
    by_pending [] is = alone is
    by_pending (oldest ∷ younger) is =
        pending_noted setting lines now core oldest younger is
        (subst (λ (q : Pending). (address : ℕ) → Contains (addresses_drained q) address
        → Contains lines (address / 64)) is drained)
