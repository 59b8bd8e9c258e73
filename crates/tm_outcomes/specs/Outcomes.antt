-- What is shown of a state in which each core has stopped, and what a search over all schedules tells.
use Rattle.std.specs.Prelude.{◌≡◌, ⊤, ◌⊎◌, ℕ, ◌+◌, ◌<◌, ◌≤◌, true, false, List, [], ◌∷◌, All, Contains, length, map}
use Rattle.std.specs.Prelude.{Option, Some, None, slice_index}
use Rattle.ia_word.specs.Operand.{operand_of}
use Rattle.ia_word.specs.declared.width.Width.TheVariants.{D}
use Rattle.tm_core.specs.Machine.{bad_limits}
use Rattle.tm_model.specs.Access.{addresses_of, bytes_at}
use Rattle.tm_model.specs.Setting.{Setting, program_setting}
use Rattle.tm_model.specs.State.{Closed, Core, Halted, Midway, Opened, Pending, State}
use Rattle.tm_model.specs.declared.outcome.Event.{Event}
use Rattle.tm_model.specs.declared.outcome.Event.TheVariants as event
use Rattle.tm_model.specs.declared.outcome.Pick.{Pick}
use Rattle.ia_regs.specs.declared.Regs.{Regs}
use Rattle.tm_outcomes.specs.Schedules.{HasEnded, Situation, after_pick, after_schedule, opening}
use Rattle.tm_outcomes.specs.declared.trial.Events.{Events}
use Rattle.tm_outcomes.specs.declared.trial.Events.TheVariants.{Never, May, Always}
use Rattle.tm_outcomes.specs.declared.trial.Item.{Item}
use Rattle.tm_outcomes.specs.declared.trial.Item.TheVariants.{Register, Memory}
use Rattle.tm_outcomes.specs.declared.trial.Trial.{Trial}
use Rattle.tm_outcomes.specs.declared.fault.SearchFault.{SearchFault}
use Rattle.tm_outcomes.specs.declared.fault.SearchFault.TheVariants.{BadLimits, NoMemory}
use Rattle.tm_outcomes.specs.declared.table.FoundOutcome.{FoundOutcome}
use Rattle.tm_outcomes.specs.declared.searching.Search.{Search}

-- ---- what is shown

-- the registers of a core outside of transactions
abbrev pub regs_of : Core → Regs
regs_of (Closed regs) = regs
regs_of (Midway regs value) = regs
regs_of (Halted regs stop) = regs
regs_of (Opened regs steps) = regs

-- a register of a core, or the doubleword at an address
abbrev pub value_of : State → Item → ℕ
value_of state (Register core register) = slice_index (regs_of (state.cores core)).gpr register
value_of state (Memory address) = operand_of D (bytes_at state.memory (addresses_of address D))

-- the core is there, or the doubleword
abbrev pub IsThere : Trial → Item → Type 0
IsThere trial (Register core register) = (core < length trial.program.now.entries) × (register < 8)
IsThere trial (Memory address) = address + 4 ≤ trial.program.now.mem_size

abbrev pub AreThere : Trial → Type 0
AreThere trial = All (IsThere trial) trial.items.now

-- ---- what is searched

-- under none, or under one of these
abbrev pub IsNoneOrOneOf : List Event → Option Event → Type 0
IsNoneOrOneOf events None = ⊤
IsNoneOrOneOf events (Some event) = Contains events event

-- a step may come under this event, or under none
abbrev pub IsAllowed : Events → Option Event → Type 0
IsAllowed Never event = event ≡ None
IsAllowed (May events) event = IsNoneOrOneOf events.now event
IsAllowed (Always always) event = event ≡ Some always

-- each step of a schedule
abbrev pub AreAllowed : Trial → List Pick → Type 0
AreAllowed trial schedule = All (λ pick. IsAllowed trial.events pick.event) schedule

-- the rules of the machines
abbrev pub trial_setting : Trial → Setting
trial_setting trial =
    program_setting trial.program.now trial.limits.read_lines trial.limits.write_lines trial.limits.stores

abbrev pub trial_opening : Trial → Situation
trial_opening trial = opening trial.program.now

-- ---- no event without need

-- what a step comes under that no event has to abort: none, but where each step comes under one
abbrev pub usual_event : Events → Option Event
usual_event Never = None
usual_event (May events) = None
usual_event (Always always) = Some always

abbrev pub AreUsual : Trial → List Pick → Type 0
AreUsual trial steps = All (λ pick. pick.event ≡ usual_event trial.events) steps

-- the event befalls a core of which these stores are pending: it aborts a transaction that is not doomed (SDM volume 1,
-- 16.3.8), or the oldest store drains
abbrev pub Befalls : Option Event → Pending → Core → Option ℕ → Type 0
Befalls (Some (event.Abort by)) pending (Opened regs steps) None = ⊤
Befalls (Some event.Drain) (oldest ∷ younger) core doom = ⊤
Befalls event pending core doom = ⊥

-- of these steps from here on, each comes under what is usual, or under an event that befalls its core
abbrev pub SparesEvents : Trial → Situation → List Pick → Type 0
SparesEvents trial now [] = ⊤
SparesEvents trial now (pick ∷ picks) =
    (pick.event ≡ usual_event trial.events
    ⊎ Befalls pick.event (now.state.pending pick.core) (now.state.cores pick.core) (now.doomed pick.core))
    × ((next : Situation) → after_pick (trial_setting trial) now pick ≡ Some next → SparesEvents trial next picks)

-- no step of a schedule comes under an event without need
abbrev pub IsSparing : Trial → List Pick → Type 0
IsSparing trial schedule = SparesEvents trial (trial_opening trial) schedule

-- ---- outcomes

-- this schedule, whose steps come under what the trial says, ends with each core stopped where it is run from the
-- program's opening state, and these values are shown then
pub record IsOutcome (trial : Trial) (schedule : List Pick) (values : List ℕ) : Type 0 where
  pub allowed : AreAllowed trial schedule
  pub end : Situation
  pub is_run : after_schedule (trial_setting trial) (trial_opening trial) schedule ≡ Some end
  pub has_ended : HasEnded end.state
  pub shown : values ≡ map (value_of end.state) trial.items.now

abbrev pub IsTold : Trial → FoundOutcome → Type 0
IsTold trial told = IsOutcome trial told.schedule.items told.values.items × IsSparing trial told.schedule.items

-- these values are among the outcomes
abbrev pub AreTold : List FoundOutcome → List ℕ → Type 0
AreTold [] values = ⊥
AreTold (told ∷ all) values = (told.values.items ≡ values) ⊎ AreTold all values

-- no two have the same values
abbrev pub AreDistinct : List FoundOutcome → Type 0
AreDistinct [] = ⊤
AreDistinct (told ∷ all) = ¬ AreTold all told.values.items × AreDistinct all

-- No outcome is told that is not one, or beside a schedule with an event without need, and none twice; and where the
-- search was not cut, whatever the schedule, its events and its length, its outcome is told. It is cut at the limit on
-- states alone.
pub record IsSearch (trial : Trial) (most : ℕ) (search : Search) : Type 0 where
  pub told : All (IsTold trial) search.outcomes.items
  pub once : AreDistinct search.outcomes.items
  pub whole : search.is_cut ≡ false → (schedule : List Pick) (values : List ℕ) →
      IsOutcome trial schedule values → AreTold search.outcomes.items values
  pub limit : search.is_cut ≡ true → search.states ≡ most
  pub few : search.states ≤ most

-- a limit is out of range, or memory was refused
abbrev pub IsRefusal : Trial → SearchFault → Type 0
IsRefusal trial BadLimits = bad_limits trial.limits ≡ true
IsRefusal trial NoMemory = ⊤
