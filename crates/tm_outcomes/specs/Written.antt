-- The lines that the steps of a search have stored to, outside of which memory is what it was before the first step.
use Rattle.std.specs.Prelude.{◌≡◌, ⊤, ℕ, ◌<◌, List, ◌++◌, Contains, Option, Some, None, length}
use Rattle.ia_image.specs.Program.{opening_memory}
use Rattle.tm_core.specs.Reopening.{IsSameElsewhere}
use Rattle.tm_model.specs.Setting.{Setting}
use Rattle.tm_model.specs.declared.outcome.Event.{Event}
use Rattle.tm_model.specs.declared.outcome.Pick.{Pick}
use Rattle.tm_outcomes.specs.Nodes.{IsTree, StandsAtNode, schedule_at}
use Rattle.tm_outcomes.specs.Outcomes.{trial_opening, trial_setting}
use Rattle.tm_outcomes.specs.Places.{IsPlaceOf}
use Rattle.tm_outcomes.specs.Schedules.{Situation, after_pick, after_schedule}
use Rattle.tm_outcomes.specs.declared.bench.Bench.{Bench}
use Rattle.tm_outcomes.specs.declared.nodes.Node.{Node}
use Rattle.tm_outcomes.specs.declared.place.Place.{Place}
use Rattle.tm_outcomes.specs.declared.trial.Trial.{Trial}
use Rattle.tm_outcomes.specs.declared.written.Written.{Written}

-- the next step of a core, under an event or under none, stores to these lines alone
abbrev pub StoresOn : Setting → List ℕ → Situation → ℕ → Type 0
StoresOn setting lines now core =
    (event : Option Event) (next : Situation) →
    after_pick setting now (record { core = core; event = event }) ≡ Some next →
    IsSameElsewhere lines next.state.memory now.state.memory

-- all steps of a schedule do
abbrev pub IsWithin : Trial → List ℕ → List Pick → Type 0
IsWithin trial lines schedule =
    (now : Situation) → after_schedule (trial_setting trial) (trial_opening trial) schedule ≡ Some now →
    IsSameElsewhere lines now.state.memory (opening_memory trial.program.now)

-- lines that were not there stand behind the others
pub record HasMore (before after : List ℕ) : Type 0 where
  pub more : List ℕ
  pub grown : after ≡ before ++ more
  pub fresh : (line : ℕ) → Contains more line → ¬ Contains before line

-- memory before the first step stays what it was, and no line is lost
pub record KeepsNoted (before after : Written) : Type 0 where
  pub opening : after.opening ≡ before.opening
  pub kept : (line : ℕ) → Contains before.lines.items line → Contains after.lines.items line

-- memory before the first step, and lines that the schedule of each node stays within
pub record IsWrittenOf (trial : Trial) (nodes : List Node) (written : Written) : Type 0 where
  pub opening : written.opening.items ≡ opening_memory trial.program.now
  pub schedules : List (List Pick)
  pub tree : IsTree trial nodes schedules
  pub within : (index : ℕ) → index < length nodes → IsWithin trial written.lines.items (schedule_at schedules index)

-- a machine of the trial whose memory is what it was but on these lines
pub record IsPlaceIn (trial : Trial) (written : Written) (here : Place) : Type 0 where
  pub place : IsPlaceOf trial here
  pub opening : written.opening.items ≡ opening_memory trial.program.now
  pub memory : IsSameElsewhere written.lines.items here.machine.memory written.opening.items

-- a machine at the end of this node's schedule, where one is told
abbrev pub IsAtNode : Trial → List Node → Place → Option ℕ → Type 0
IsAtNode trial nodes place None = ⊤
IsAtNode trial nodes place (Some index) = (index < length nodes) × StandsAtNode trial nodes place index

-- the machines of a bench are such, for these nodes
pub record IsBenchOf (trial : Trial) (nodes : List Node) (bench : Bench) : Type 0 where
  pub start : IsPlaceIn trial bench.noted bench.start
  pub at : IsAtNode trial nodes bench.start bench.at
  pub here : IsPlaceIn trial bench.noted bench.here
  pub other : IsPlaceIn trial bench.noted bench.other
  pub written : IsWrittenOf trial nodes bench.noted
