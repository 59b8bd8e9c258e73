-- A machine at the end of a schedule, and when two of them stand for the same states.
use Rattle.std.specs.Prelude.{◌≡◌, ℕ, Bool, true, false, ◌<◌, List, [], ◌∷◌, ◌++◌, Some, None, length, replicate}
use Rattle.tm_core.specs.Theorem.{StandsFor, machine_setting, pending_at, view_at}
use Rattle.tm_model.specs.Setting.{Setting}
use Rattle.tm_model.specs.State.{Pending}
use Rattle.tm_model.specs.declared.outcome.Event.TheVariants as event
use Rattle.tm_model.specs.declared.outcome.Pick.{Pick}
use Rattle.tm_model.specs.declared.outcome.CoreState.{CoreState}
use Rattle.tm_model.specs.declared.outcome.CoreState.TheVariants.{Running, Mid, Open, Condemned, Stopped as AtStop}
use Rattle.tm_outcomes.specs.Outcomes.{trial_opening, trial_setting}
use Rattle.tm_outcomes.specs.Schedules.{Situation, after_pick, after_schedule, owed_by}
use Rattle.tm_outcomes.specs.declared.place.Place.{Place}
use Rattle.tm_outcomes.specs.declared.replay.Ahead.{Ahead}
use Rattle.tm_outcomes.specs.declared.trial.Trial.{Trial}

-- a machine of the trial's program and limits, whatever its steps have been
pub record IsPlaceOf (trial : Trial) (place : Place) : Type 0 where
  pub rules : machine_setting place.machine ≡ trial_setting trial
  pub count : length place.machine.views ≡ length trial.program.now.entries

-- the machine stands for the end of this schedule
pub record IsAt (trial : Trial) (place : Place) (schedule : List Pick) : Type 0 where
  pub now : Situation
  pub is_run : after_schedule (trial_setting trial) (trial_opening trial) schedule ≡ Some now
  pub rules : machine_setting place.machine ≡ trial_setting trial
  pub count : length place.machine.views ≡ length trial.program.now.entries
  pub stands : StandsFor place.machine now.state now.doomed

-- a step of a core under no event
abbrev pub alone : ℕ → Pick
alone core = record { core = core; event = None }

-- the machine stands for a schedule, of which the last steps are still to be made
pub record IsAhead (trial : Trial) (place : Place) (ahead : Ahead) (schedule : List Pick) : Type 0 where
  pub made : List Pick
  pub is : schedule ≡ made ++ replicate ahead.count (alone ahead.core)
  pub at : IsAt trial place made

abbrev pub has_stopped : CoreState → Bool
has_stopped (AtStop stop) = true
has_stopped Running = false
has_stopped Mid = false
has_stopped (Open depth) = false
has_stopped (Condemned depth) = false

-- in a transaction that is not doomed, which an event aborts
abbrev pub is_open : CoreState → Bool
is_open (Open depth) = true
is_open Running = false
is_open Mid = false
is_open (Condemned depth) = false
is_open (AtStop stop) = false

-- whether a store is pending
abbrev pub are_pending : Pending → Bool
are_pending [] = false
are_pending (oldest ∷ younger) = true

-- under a drain the next step of a core is what it is under no event: none of its stores is pending, or it waits
abbrev pub DrainsAsItSteps : Setting → Situation → ℕ → Type 0
DrainsAsItSteps setting now core =
    owed_by setting now (record { core = core; event = Some event.Drain }) ≡ owed_by setting now (alone core)

-- memory is the same, and what is shown of each core, with its stores that are pending
pub record AreAlike (a b : Place) : Type 0 where
  pub memory : a.machine.memory ≡ b.machine.memory
  pub count : length a.machine.views ≡ length b.machine.views
  pub each : (core : ℕ) → core < length a.machine.views → view_at a.machine core ≡ view_at b.machine core
  pub pending : (core : ℕ) → core < length a.machine.views → pending_at a.machine core ≡ pending_at b.machine core

-- after this pick, the machine stands for what follows
pub record StandsAfter (setting : Setting) (after : Place) (pick : Pick) (now : Situation) : Type 0 where
  pub next : Situation
  pub is_next : after_pick setting now pick ≡ Some next
  pub stands : StandsFor after.machine next.state next.doomed

abbrev pub GoesTo : Setting → Place → Place → Pick → Type 0
GoesTo setting before after pick =
    (now : Situation) → StandsFor before.machine now.state now.doomed → StandsAfter setting after pick now
