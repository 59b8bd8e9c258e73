-- With room for more stores a schedule leads to the same, where no step of a core waits for room behind any part of it.
use Rattle.std.proofs.Common.{◌≡◌, ℕ, zero, suc, ◌<◌, ◌≤◌, Bool, true, false, List, [], ◌∷◌, Option, Some, None, length}
use Rattle.std.proofs.Common.{refl, sym, ap, ◌∙◌, arith}
use Rattle.std.specs.Prelude.{All, ◌||◌, if◌then◌else◌, nat_eq, nat_lt, not, option_and_then, option_map, unwrap_or}
use Rattle.std.proofs.lemmas.Bool.{false≢true, lt-ltb, ltb-true, ne_eqb, not_from_true, true≢false}
use Rattle.std.proofs.lemmas.List.Elements.{All-cons, All-head, All-nil, All-tail}
use Rattle.ia_regs.specs.declared.Regs.{Regs}
use Rattle.tm_model.specs.Conflicts.{Doomed, addresses_at_once, addresses_loaded_by, addresses_stored_by}
use Rattle.tm_model.specs.Conflicts.{addresses_written_by, doom_after_other, doom_after_own, doomed_after}
use Rattle.tm_model.specs.Isolated.{Body, instruction_after, isolated_body, longer_body}
use Rattle.tm_model.specs.Owed.{abort_by, depth_of, outcome_of_event, owed_after, owed_inside, owed_outcome, owed_under}
use Rattle.tm_model.specs.Owed.{owed_with_pending}
use Rattle.tm_model.specs.Setting.{Setting}
use Rattle.tm_model.specs.State.{Closed, Core, Halted, Midway, Opened, Pending, State, seen_by, seen_memory}
use Rattle.tm_model.specs.Steps.{after_step, after_step_of, must_wait, needs_none, needs_room, settled, state_with}
use Rattle.tm_model.specs.Steps.{step, store_buffered, store_outside}
use Rattle.tm_model.specs.Types.{Store}
use Rattle.tm_rule.specs.declared.kinds.InsideResult.{InsideResult}
use Rattle.tm_rule.specs.declared.kinds.InsideResult.TheVariants.{GoesOn, Nests, Ends, Fails}
use Rattle.tm_model.specs.declared.outcome.Event.{Event}
use Rattle.tm_model.specs.declared.outcome.Event.TheVariants as event
use Rattle.tm_model.specs.declared.outcome.Outcome.{Outcome}
use Rattle.tm_model.specs.declared.outcome.Outcome.TheVariants.{Drained}
use Rattle.tm_model.specs.declared.outcome.Pick.{Pick}
use Rattle.tm_outcomes.specs.Larger.{LeadsAlike}
use Rattle.tm_outcomes.specs.Outcomes.{IsAllowed, trial_opening, trial_setting}
use Rattle.tm_outcomes.specs.Schedules.{Situation, after_pick, after_schedule, owed_by, with_state}
use Rattle.tm_outcomes.specs.Verdicts.{HasWaiting, IsReached}
use Rattle.tm_outcomes.specs.declared.trial.Trial.{Trial}

-- ---- what is owed does not wait

module _ (setting : Setting) where
  drain_goes : (memory : List ℕ) (pending : Pending) (core : Core) →
      must_wait setting memory pending core Drained ≡ false
  drain_goes memory [] core = refl
  drain_goes memory (oldest ∷ younger) (Closed regs) = refl
  drain_goes memory (oldest ∷ younger) (Midway regs value) = refl
  drain_goes memory (oldest ∷ younger) (Halted regs stop) = refl
  drain_goes memory (oldest ∷ younger) (Opened regs steps) = refl

  goes_by_itself : (memory : List ℕ) (pending : Pending) (core : Core) (doom : Option ℕ) →
      must_wait setting (seen_memory memory pending) pending core (owed_with_pending setting memory pending core doom)
      ≡ false
  goes_by_itself memory pending core doom =
      let seen : List ℕ = seen_memory memory pending in
      let owed : Outcome = owed_outcome setting seen core doom in
      on seen owed (must_wait setting seen pending core owed) refl
    where
      on : (seen : List ℕ) (owed : Outcome) (waits : Bool) → must_wait setting seen pending core owed ≡ waits →
          must_wait setting seen pending core (if waits then Drained else owed) ≡ false
      on seen owed true is = drain_goes seen pending core
      on seen owed false is = is

  goes_under : (by : Option Event) (memory : List ℕ) (pending : Pending) (core : Core) (doom : Option ℕ) →
      must_wait setting (seen_memory memory pending) pending core (owed_under by setting memory pending core doom)
      ≡ false
  goes_under None memory pending core doom = goes_by_itself memory pending core doom
  goes_under (Some event.Drain) memory [] core doom = goes_by_itself memory [] core doom
  goes_under (Some event.Drain) memory (oldest ∷ younger) core doom =
      drain_goes (seen_memory memory (oldest ∷ younger)) (oldest ∷ younger) core
  goes_under (Some (event.Abort by)) memory [] (Opened regs steps) None = refl
  goes_under (Some (event.Abort by)) memory (oldest ∷ younger) (Opened regs steps) None = refl
  goes_under (Some (event.Abort by)) memory pending (Opened regs steps) (Some depth) =
      goes_by_itself memory pending (Opened regs steps) (Some depth)
  goes_under (Some (event.Abort by)) memory pending (Closed regs) doom =
      goes_by_itself memory pending (Closed regs) doom
  goes_under (Some (event.Abort by)) memory pending (Midway regs value) doom =
      goes_by_itself memory pending (Midway regs value) doom
  goes_under (Some (event.Abort by)) memory pending (Halted regs stop) doom =
      goes_by_itself memory pending (Halted regs stop) doom

-- ---- a step

not_none : (most : ℕ) → 0 < most → nat_eq most 0 ≡ false
not_none most some = ne_eqb most 0 (λ none. omega arith)

module _ (setting : Setting) (larger : ℕ) (some : 0 < setting.store_buffer) (more : setting.store_buffer ≤ larger) where
  -- the rules, with room for more stores
  abbrev roomy : Setting
  roomy = record setting { store_buffer = larger }

  has_room : (pending : Pending) (store : Option Store) → needs_room setting pending store ≡ false →
      needs_room roomy pending store ≡ false
  has_room pending None is = refl
  has_room pending (Some store) is =
      let below : length pending < setting.store_buffer =
      ltb-true (length pending) setting.store_buffer (from_not (nat_lt (length pending) setting.store_buffer) is) in
      not_from_true (nat_lt (length pending) larger) (lt-ltb (length pending) larger (omega arith))
    where
      from_not : (t : Bool) → not t ≡ false → t ≡ true
      from_not true e = refl
      from_not false e = absurd (true≢false e)

  -- a step waits with either, where it waits for none pending, or for nothing
  same_wait : (memory : List ℕ) (pending : Pending) (core : Core) (outcome : Outcome) →
      (must_wait setting memory pending core outcome ≡ true → needs_none setting core outcome ≡ true) →
      must_wait roomy memory pending core outcome ≡ must_wait setting memory pending core outcome
  same_wait memory [] core outcome free = refl
  same_wait memory (oldest ∷ younger) core outcome free =
      on (needs_none setting core outcome)
      (needs_room setting (oldest ∷ younger) (store_outside setting memory core outcome))
      (needs_room roomy (oldest ∷ younger) (store_outside setting memory core outcome)) free
      (has_room (oldest ∷ younger) (store_outside setting memory core outcome))
    where
      on : (none full fuller : Bool) → ((none || full) ≡ true → none ≡ true) → (full ≡ false → fuller ≡ false) →
          (none || fuller) ≡ (none || full)
      on true full fuller free has = refl
      on false true fuller free has = absurd (false≢true (free refl))
      on false false fuller free has = has refl

  same_buffered : (memory : List ℕ) (core : Core) (outcome : Outcome) →
      store_buffered roomy memory core outcome ≡ store_buffered setting memory core outcome
  same_buffered memory core outcome =
      ap (λ none. if none then None else store_outside setting memory core outcome)
      (not_none larger (omega arith) ∙ sym (not_none setting.store_buffer some))

  -- what is owed but for that does not look at the room for stores
  same_body : (regs : Regs) (memory : List ℕ) (steps : ℕ) →
      isolated_body roomy regs memory steps ≡ isolated_body setting regs memory steps
  same_body regs memory zero = refl
  same_body regs memory (suc zero) = refl
  same_body regs memory (suc (suc steps)) =
      ap (option_and_then (longer_body setting memory)) (same_body regs memory (suc steps))

  same_inside : (body : Body) (result : InsideResult) →
      owed_inside roomy body result ≡ owed_inside setting body result
  same_inside body (GoesOn regs store) = refl
  same_inside body (Nests regs) = refl
  same_inside body (Ends regs) = refl
  same_inside body (Fails cause) = refl

  same_after : (memory : List ℕ) (body : Option Body) → owed_after roomy memory body ≡ owed_after setting memory body
  same_after memory None = refl
  same_after memory (Some body) = same_inside body (instruction_after setting memory body)

  same_outcome : (memory : List ℕ) (core : Core) (doom : Option ℕ) →
      owed_outcome roomy memory core doom ≡ owed_outcome setting memory core doom
  same_outcome memory (Halted regs stop) doom = refl
  same_outcome memory (Closed regs) (Some depth) = refl
  same_outcome memory (Midway regs value) (Some depth) = refl
  same_outcome memory (Opened regs steps) (Some depth) = refl
  same_outcome memory (Closed regs) None = refl
  same_outcome memory (Midway regs value) None = refl
  same_outcome memory (Opened regs steps) None =
      ap (owed_after roomy memory) (same_body regs memory steps)
      ∙ same_after memory (isolated_body setting regs memory steps)

  same_event : (by : Option Event) (memory : List ℕ) (pending : Pending) (core : Core) (doom : Option ℕ) →
      outcome_of_event by roomy memory pending core doom ≡ outcome_of_event by setting memory pending core doom
  same_event None memory pending core doom = refl
  same_event (Some event.Drain) memory [] core doom = refl
  same_event (Some event.Drain) memory (oldest ∷ younger) core doom = refl
  same_event (Some (event.Abort by)) memory pending (Closed regs) doom = refl
  same_event (Some (event.Abort by)) memory pending (Midway regs value) doom = refl
  same_event (Some (event.Abort by)) memory pending (Halted regs stop) doom = refl
  same_event (Some (event.Abort by)) memory pending (Opened regs steps) (Some depth) = refl
  same_event (Some (event.Abort by)) memory pending (Opened regs steps) None =
      ap (λ (body : Option Body). Some (abort_by by (depth_of body)))
      (same_body regs (seen_memory memory pending) steps)

  same_owed : (by : Option Event) (memory : List ℕ) (pending : Pending) (core : Core) (doom : Option ℕ) →
      (must_wait setting (seen_memory memory pending) pending core
      (owed_outcome setting (seen_memory memory pending) core doom) ≡ true
      → needs_none setting core (owed_outcome setting (seen_memory memory pending) core doom) ≡ true) →
      owed_under by roomy memory pending core doom ≡ owed_under by setting memory pending core doom
  same_owed by memory pending core doom free =
      let seen : List ℕ = seen_memory memory pending in
      let owed : Outcome = owed_outcome setting seen core doom in
      ap (λ (told : Option Outcome). unwrap_or told (owed_with_pending roomy memory pending core doom))
      (same_event by memory pending core doom)
      ∙ (ap (λ (x : Outcome). unwrap_or (outcome_of_event by setting memory pending core doom)
      (if must_wait roomy seen pending core x then Drained else x)) (same_outcome seen core doom)
      ∙ ap (λ waits. unwrap_or (outcome_of_event by setting memory pending core doom) (if waits then Drained else owed))
      (same_wait seen pending core owed free))

  same_step : (memory : List ℕ) (pending : Pending) (core : Core) (outcome : Outcome) →
      must_wait setting (seen_memory memory pending) pending core outcome ≡ false →
      after_step roomy memory pending core outcome ≡ after_step setting memory pending core outcome
  same_step memory pending core Drained goes = refl
  same_step memory pending core outcome goes =
      let seen : List ℕ = seen_memory memory pending in
      let waits : must_wait roomy seen pending core outcome ≡ must_wait setting seen pending core outcome =
      same_wait seen pending core outcome (λ is. absurd (false≢true (sym goes ∙ is))) in
      λ i. if waits i
      then None
      else
      option_map (settled memory pending (same_buffered seen core outcome i)) (after_step_of setting seen core outcome)

  same_writes : (memory : List ℕ) (pending : Pending) (core : Core) (outcome : Outcome) →
      addresses_written_by roomy memory pending core outcome ≡ addresses_written_by setting memory pending core outcome
  same_writes memory pending core Drained = refl
  same_writes memory pending core outcome =
      let seen : List ℕ = seen_memory memory pending in
      ap (λ store. addresses_at_once store (addresses_stored_by setting seen core outcome))
      (same_buffered seen core outcome)

  same_doomed : (state : State) (doomed : Doomed) (number : ℕ) (outcome : Outcome) →
      doomed_after roomy state doomed number outcome ≡ doomed_after setting state doomed number outcome
  same_doomed state doomed number outcome = λ i other.
      if nat_eq other number
      then doom_after_own outcome (doomed number)
      else
      doom_after_other setting (seen_by state other)
      (addresses_loaded_by setting (seen_by state number) (state.cores number) outcome)
      (same_writes state.memory (state.pending number) (state.cores number) outcome i)
      (state.cores other) (doomed other)

  -- ---- a pick

  abbrev reached : Doomed → State → Situation
  reached doomed state = record { state = state; doomed = doomed }

  no_core : (rules : Setting) (now : Situation) (pick : Pick) → nat_lt pick.core now.state.count ≡ false →
      after_pick rules now pick ≡ None
  no_core rules now pick is =
      let owed : Outcome = owed_by rules now pick in
      ap (λ within. option_map (with_state rules now pick.core owed) (if within
      then option_map (state_with now.state pick.core)
      (after_step rules now.state.memory (now.state.pending pick.core) (now.state.cores pick.core) owed)
      else None)) is

  -- the step of a core of the situation that does not wait for room
  same_made : (now : Situation) (pick : Pick) →
      (must_wait setting (seen_by now.state pick.core) (now.state.pending pick.core) (now.state.cores pick.core)
      (owed_outcome setting (seen_by now.state pick.core) (now.state.cores pick.core) (now.doomed pick.core)) ≡ true
      → needs_none setting (now.state.cores pick.core)
      (owed_outcome setting (seen_by now.state pick.core) (now.state.cores pick.core) (now.doomed pick.core)) ≡ true) →
      after_pick roomy now pick ≡ after_pick setting now pick
  same_made now pick free =
      let memory : List ℕ = now.state.memory in
      let pending : Pending = now.state.pending pick.core in
      let core : Core = now.state.cores pick.core in
      let outcome : Outcome = owed_by setting now pick in
      let made : after_step roomy memory pending core outcome ≡ after_step setting memory pending core outcome =
      same_step memory pending core outcome
      (goes_under setting pick.event memory pending core (now.doomed pick.core)) in
      ap (λ (x : Outcome). option_map (with_state roomy now pick.core x) (step roomy now.state pick.core x))
      (same_owed pick.event memory pending core (now.doomed pick.core) free)
      ∙ (λ i. option_map (reached (same_doomed now.state now.doomed pick.core outcome i))
      (if nat_lt pick.core now.state.count then option_map (state_with now.state pick.core) (made i) else None))

  same_pick : (now : Situation) (pick : Pick) → ¬ HasWaiting setting now →
      after_pick roomy now pick ≡ after_pick setting now pick
  same_pick now pick free = on (nat_lt pick.core now.state.count) refl
    where
      for_none : pick.core < now.state.count → (none : Bool) → needs_none setting (now.state.cores pick.core)
          (owed_outcome setting (seen_by now.state pick.core) (now.state.cores pick.core) (now.doomed pick.core)) ≡ none
          → must_wait setting (seen_by now.state pick.core) (now.state.pending pick.core) (now.state.cores pick.core)
          (owed_outcome setting (seen_by now.state pick.core) (now.state.cores pick.core) (now.doomed pick.core)) ≡ true
          → none ≡ true
      for_none within true is waits = refl
      for_none within false is waits = absurd (free (pick.core, within, record { waits = waits; at_room = is }))

      on : (within : Bool) → nat_lt pick.core now.state.count ≡ within →
          after_pick roomy now pick ≡ after_pick setting now pick
      on false is = no_core roomy now pick is ∙ sym (no_core setting now pick is)
      on true is = same_made now pick (for_none (ltb-true pick.core now.state.count is)
          (needs_none setting (now.state.cores pick.core)
          (owed_outcome setting (seen_by now.state pick.core) (now.state.cores pick.core) (now.doomed pick.core))) refl)

  -- ---- a schedule

  same_schedule : (allowed : Pick → Type 0) (picks : List Pick) (now : Situation) → All allowed picks →
      ((prefix : List Pick) → All allowed prefix → (end : Situation)
      → after_schedule setting now prefix ≡ Some end → ¬ HasWaiting setting end) →
      after_schedule roomy now picks ≡ after_schedule setting now picks
  same_schedule allowed [] now are free = refl
  same_schedule allowed (pick ∷ picks) now are free =
      ap (option_and_then (λ (next : Situation). after_schedule roomy next picks))
      (same_pick now pick (free [] (All-nil allowed) now refl))
      ∙ goes_on (after_pick setting now pick)
      (λ next is. same_schedule allowed picks next (All-tail allowed pick picks are)
      (λ prefix others end run. free (pick ∷ prefix)
      (All-cons allowed pick prefix (All-head allowed pick picks are) others) end
      (ap (option_and_then (λ (next : Situation). after_schedule setting next prefix)) is ∙ run)))
    where
      goes_on : (after : Option Situation) → ((next : Situation) → after ≡ Some next →
          after_schedule roomy next picks ≡ after_schedule setting next picks) →
          option_and_then (λ (next : Situation). after_schedule roomy next picks) after
          ≡ option_and_then (λ (next : Situation). after_schedule setting next picks) after
      goes_on None rest = refl
      goes_on (Some next) rest = rest next refl

pub leads_alike : (trial : Trial) → 0 < trial.limits.stores →
    ((schedule : List Pick) (now : Situation) → IsReached trial schedule now → ¬ HasWaiting (trial_setting trial) now) →
    (stores : ℕ) → trial.limits.stores ≤ stores → LeadsAlike stores trial
leads_alike trial some free stores more schedule allowed =
    same_schedule (trial_setting trial) stores some more (λ (pick : Pick). IsAllowed trial.events pick.event) schedule
    (trial_opening trial) allowed
    (λ prefix are end run. free prefix end (record { allowed = are; is_run = run }))
