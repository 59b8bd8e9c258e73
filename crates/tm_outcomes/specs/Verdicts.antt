-- What a search says of states from which no schedule leads to an end, of cycles that can be made for ever, of cores
-- that stop for a reason, and of ends that violate a check.
use Rattle.std.specs.Prelude.{◌≡◌, ◌≢◌, ℕ, ◌<◌, ◌≤◌, Bool, true, false, List, [], All, Contains, Some, None, IfSome}
use Rattle.std.specs.Prelude.{length, slice_get, slice_index_or}
use Rattle.std.specs.List.{AllPairs, Any}
use Rattle.ia_regs.specs.declared.Regs.{Regs}
use Rattle.tm_condition.specs.Conditions.{Seen, Violates}
use Rattle.tm_condition.specs.declared.check.Check.{Check}
use Rattle.tm_model.specs.Owed.{owed_outcome}
use Rattle.tm_model.specs.Setting.{Setting}
use Rattle.tm_model.specs.Shown.{view_of}
use Rattle.tm_model.specs.State.{Core, Halted, State, seen_by}
use Rattle.tm_model.specs.Steps.{must_wait, needs_none}
use Rattle.tm_model.specs.declared.outcome.Pick.{Pick}
use Rattle.tm_rule.specs.declared.kinds.Stop.{Stop}
use Rattle.tm_outcomes.specs.Larger.{LeadsAlike}
use Rattle.tm_outcomes.specs.Marks.{unmarked}
use Rattle.tm_outcomes.specs.Outcomes.{AreAllowed, AreUsual, IsAllowed, IsSparing, regs_of, trial_opening}
use Rattle.tm_outcomes.specs.Outcomes.{trial_setting}
use Rattle.tm_outcomes.specs.Schedules.{HasEnded, Situation, after_schedule}
use Rattle.tm_outcomes.specs.Unseen.{LeadUnseen}
use Rattle.tm_outcomes.specs.declared.searching.Search.{Search}
use Rattle.tm_outcomes.specs.declared.stops.ReachedStop.{ReachedStop}
use Rattle.tm_outcomes.specs.declared.trial.Trial.{Trial}
use Rattle.tm_outcomes.specs.declared.violations.Violation.{Violation}

-- this schedule, whose steps come under what the trial says, leads from the program's opening state here
pub record IsReached (trial : Trial) (schedule : List Pick) (now : Situation) : Type 0 where
  pub allowed : AreAllowed trial schedule
  pub is_run : after_schedule (trial_setting trial) (trial_opening trial) schedule ≡ Some now

abbrev pub HasStoppedBy : Core → Stop → Type 0
HasStoppedBy core why = (regs : Regs) × (core ≡ Halted regs why)

abbrev pub HasStopped : Core → Type 0
HasStopped core = (why : Stop) × HasStoppedBy core why

-- ---- states without a way to an end

-- some schedule, whose steps come under what the trial says, goes on from here until each core has stopped
pub record CanEnd (trial : Trial) (now : Situation) : Type 0 where
  pub schedule : List Pick
  pub allowed : AreAllowed trial schedule
  pub end : Situation
  pub is_run : after_schedule (trial_setting trial) now schedule ≡ Some end
  pub has_ended : HasEnded end.state

-- behind this schedule none does
abbrev pub IsStuck : Trial → List Pick → Type 0
IsStuck trial schedule =
    (now : Situation) × IsReached trial schedule now × ¬ CanEnd trial now × IsSparing trial schedule

-- ---- fair cycles

-- what is shown of memory and of each core is the same, with its stores that are pending
pub record AreSame (trial : Trial) (a b : Situation) : Type 0 where
  pub memory : a.state.memory ≡ b.state.memory
  pub count : a.state.count ≡ b.state.count
  pub each : (core : ℕ) → core < a.state.count →
      view_of (trial_setting trial) (seen_by a.state core) (a.state.cores core) (a.doomed core)
      ≡ view_of (trial_setting trial) (seen_by b.state core) (b.state.cores core) (b.doomed core)
  pub pending : (core : ℕ) → core < a.state.count → a.state.pending core ≡ b.state.pending core

-- one of these steps is the core's
abbrev pub HasStepOf : ℕ → List Pick → Type 0
HasStepOf core steps = Any (λ pick. pick.core ≡ core) steps

-- These steps, one of each core that has not stopped among them, lead from a situation back to one that is shown alike,
-- from which they lead back again, and so for ever. No event that need not come is in them: none comes for ever.
pub record LeadsBack (trial : Trial) (now : Situation) (steps : List Pick) : Type 0 where
  pub allowed : AreAllowed trial steps
  pub usual : AreUsual trial steps
  pub back : Situation
  pub is_run : after_schedule (trial_setting trial) now steps ≡ Some back
  pub same : AreSame trial now back
  pub fair : (core : ℕ) → core < now.state.count → ¬ HasStopped (now.state.cores core) → HasStepOf core steps

-- behind this schedule some core has not stopped, an end can be reached, and these steps lead back
pub record IsCycle (trial : Trial) (schedule steps : List Pick) : Type 0 where
  pub now : Situation
  pub reached : IsReached trial schedule now
  pub sparing : IsSparing trial schedule
  pub goes_on : ¬ HasEnded now.state
  pub can_end : CanEnd trial now
  pub leads_back : LeadsBack trial now steps

-- ---- the states that were found

-- steps that no other core sees lead from here to what is shown as it is at the end of this schedule
pub record RestsAs (trial : Trial) (now : Situation) (schedule : List Pick) : Type 0 where
  pub steps : List Pick
  pub end : Situation
  pub rests : LeadUnseen (trial_setting trial) (IsAllowed trial.events) now steps end
  pub there : Situation
  pub reached : IsReached trial schedule there
  pub same : AreSame trial there end

-- whether some schedule goes on to an end from where this one leads
abbrev pub IsJudged : Trial → List Pick → Bool → Type 0
IsJudged trial schedule true = (now : Situation) × IsReached trial schedule now × CanEnd trial now
IsJudged trial schedule false = IsStuck trial schedule

-- no two of these schedules lead to what is shown alike
abbrev pub AreDifferent : Trial → List (List Pick) → Type 0
AreDifferent trial schedules =
    (first second : ℕ) → first < second → second < length schedules → (one other : Situation) →
    IsReached trial (slice_index_or schedules first []) one →
    IsReached trial (slice_index_or schedules second []) other → ¬ AreSame trial one other

-- as many states as are told: a schedule leads to each, and no two of them are shown alike
pub record HasFound (trial : Trial) (search : Search) : Type 0 where
  pub schedules : List (List Pick)
  pub count : length schedules ≡ search.states
  pub reached : (index : ℕ) → index < search.states →
      (now : Situation) × IsReached trial (slice_index_or schedules index []) now
  pub different : AreDifferent trial schedules

-- A schedule to each of the states that were found, no two of which are shown alike, and whether an end can be reached
-- from there. Wherever a schedule leads, one of these states, or what is shown alike, follows by steps that no other
-- core sees. As many as cannot reach an end are told as stuck.
pub record HasStates (trial : Trial) (search : Search) : Type 0 where
  pub schedules : List (List Pick)
  pub can_end : List Bool
  pub count : length schedules ≡ search.states
  pub judgements : length can_end ≡ search.states
  pub different : AreDifferent trial schedules
  pub all : (schedule : List Pick) (now : Situation) → IsReached trial schedule now →
      (index : ℕ) × (index < search.states) × RestsAs trial now (slice_index_or schedules index [])
  pub judged : (index : ℕ) → index < search.states →
      IsJudged trial (slice_index_or schedules index []) (slice_index_or can_end index false)
  pub stuck : IfSome search.stuck (λ told. told.states ≡ unmarked can_end)

-- ---- stops

-- some core has stopped for this reason
abbrev pub StopsBy : State → Stop → Type 0
StopsBy state why = (core : ℕ) × (core < state.count) × HasStoppedBy (state.cores core) why

-- the reason is one that is looked for, and behind this schedule some core has stopped for it
pub record IsStop (trial : Trial) (told : ReachedStop) : Type 0 where
  pub asked : Contains trial.stops.now told.why
  pub now : Situation
  pub reached : IsReached trial told.schedule.items now
  pub sparing : IsSparing trial told.schedule.items
  pub stops : StopsBy now.state told.why

-- this reason is among those that are told
abbrev pub IsStopTold : List ReachedStop → Stop → Type 0
IsStopTold stops why = Any (λ told. told.why ≡ why) stops

-- ---- checks

-- what a check looks at of a state: memory, and of each core the registers outside of transactions
abbrev pub seen_at : State → Seen
seen_at state = record { memory = state.memory; count = state.count; regs = λ core. regs_of (state.cores core) }

-- the check is one of the trial's, and this schedule leads to a state in which each core has stopped, which violates it
pub record IsViolation (trial : Trial) (told : Violation) : Type 0 where
  pub check : Check
  pub asked : slice_get trial.checks.now told.check ≡ Some check
  pub end : Situation
  pub reached : IsReached trial told.schedule.items end
  pub sparing : IsSparing trial told.schedule.items
  pub has_ended : HasEnded end.state
  pub violates : Violates (seen_at end.state) check

-- the check with this index is among those that are told
abbrev pub IsViolationTold : List Violation → ℕ → Type 0
IsViolationTold violations check = Any (λ told. told.check ≡ check) violations

-- ---- room for stores

-- The next step of a core waits for room: it stores, and as many of its stores are pending as may be. It is none that
-- would wait at any size, until no store is pending.
pub record WaitsForRoom (setting : Setting) (now : Situation) (core : ℕ) : Type 0 where
  pub waits : must_wait setting (seen_by now.state core) (now.state.pending core) (now.state.cores core)
      (owed_outcome setting (seen_by now.state core) (now.state.cores core) (now.doomed core)) ≡ true
  pub at_room : needs_none setting (now.state.cores core)
      (owed_outcome setting (seen_by now.state core) (now.state.cores core) (now.doomed core)) ≡ false

-- that of some core does
abbrev pub HasWaiting : Setting → Situation → Type 0
HasWaiting setting now = (core : ℕ) × (core < now.state.count) × WaitsForRoom setting now core

-- and some schedule leads there
abbrev pub HasWaited : Trial → Type 0
HasWaited trial =
    (schedule : List Pick) × (now : Situation) × IsReached trial schedule now × HasWaiting (trial_setting trial) now

-- ---- what is told

-- No schedule is told as stuck behind which some schedule ends, no steps as a cycle that do not lead back, no schedule
-- for a stop that it does not lead to, and none for a check that its end does not violate; and where the search was
-- not cut and tells none, each schedule goes on to an end, none leads to a stop that is looked for, and each end passes
-- each check. Where it was cut, none is told as stuck, and no cycle. No step of a schedule that is told comes under an
-- event without need. As many states are told as were found, cut or not, none of them twice. It tells that a step waits
-- for room only where one does; and where it was not cut and does not tell it, none does, and with room for one store
-- or more each schedule leads to the same as with room for any larger number.
pub record IsVerdict (trial : Trial) (search : Search) : Type 0 where
  pub stuck : IfSome search.stuck (λ told. IsStuck trial told.schedule.items)
  pub free : search.is_cut ≡ false → search.stuck ≡ None → (schedule : List Pick) (now : Situation) →
      IsReached trial schedule now → CanEnd trial now
  pub cut : search.is_cut ≡ true → search.stuck ≡ None
  pub found : HasFound trial search
  pub states : search.is_cut ≡ false → HasStates trial search
  pub cycle : IfSome search.cycle (λ told. IsCycle trial told.schedule.items told.steps.items)
  pub cut_cycle : search.is_cut ≡ true → search.cycle ≡ None
  pub stops : All (IsStop trial) search.stops.items
  pub once : AllPairs (λ one other. one.why ≢ other.why) search.stops.items
  pub no_stop : search.is_cut ≡ false → (schedule : List Pick) (now : Situation) → IsReached trial schedule now →
      (why : Stop) → Contains trial.stops.now why → StopsBy now.state why → IsStopTold search.stops.items why
  pub waited : search.waited ≡ true → HasWaited trial
  pub no_wait : search.is_cut ≡ false → search.waited ≡ false → (schedule : List Pick) (now : Situation) →
      IsReached trial schedule now → ¬ HasWaiting (trial_setting trial) now
  pub larger : search.is_cut ≡ false → search.waited ≡ false → 0 < trial.limits.stores → (stores : ℕ) →
      trial.limits.stores ≤ stores → LeadsAlike stores trial
  pub violations : All (IsViolation trial) search.violations.items
  pub violated_once : AllPairs (λ one other. one.check ≢ other.check) search.violations.items
  pub no_violation : search.is_cut ≡ false → (schedule : List Pick) (end : Situation) → IsReached trial schedule end →
      HasEnded end.state → (index : ℕ) (check : Check) → slice_get trial.checks.now index ≡ Some check →
      Violates (seen_at end.state) check → IsViolationTold search.violations.items index
