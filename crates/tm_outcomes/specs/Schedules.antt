-- The run of a schedule: a list of picks, each of which is the step of a core that is owed, under an event or under
-- none. A schedule decides its run.
use Rattle.std.specs.Prelude.{◌≡◌, ℕ, ◌<◌, List, [], ◌∷◌, Option, Some, None, option_map, option_and_then}
use Rattle.ia_image.specs.Program.{ProgramValue as Program}
use Rattle.tm_model.specs.Conflicts.{Doomed, doomed_after}
use Rattle.tm_model.specs.Owed.{owed_under}
use Rattle.tm_model.specs.Setting.{Setting}
use Rattle.tm_model.specs.State.{Halted, State, opening_state}
use Rattle.tm_model.specs.Steps.{step}
use Rattle.ia_regs.specs.declared.Regs.{Regs}
use Rattle.tm_rule.specs.declared.kinds.Stop.{Stop}
use Rattle.tm_model.specs.declared.outcome.Outcome.{Outcome}
use Rattle.tm_model.specs.declared.outcome.Pick.{Pick}

-- a state of the machine, with its doomed cores
pub record Situation : Type 0 where
  pub state : State
  pub doomed : Doomed

abbrev pub opening : Program → Situation
opening program = record { state = opening_state program; doomed = λ _. None }

-- the outcome that a pick owes
abbrev pub owed_by : Setting → Situation → Pick → Outcome
owed_by setting now pick =
    owed_under pick.event setting now.state.memory (now.state.pending pick.core) (now.state.cores pick.core)
    (now.doomed pick.core)

abbrev pub with_state : Setting → Situation → ℕ → Outcome → State → Situation
with_state setting now core outcome state =
    record { state = state; doomed = doomed_after setting now.state now.doomed core outcome }

-- after the next step of a pick's core, under its event; nothing where there is no such core
abbrev pub after_pick : Setting → Situation → Pick → Option Situation
after_pick setting now pick =
    option_map (with_state setting now pick.core (owed_by setting now pick))
    (step setting now.state pick.core (owed_by setting now pick))

-- after a schedule
abbrev pub after_schedule : Setting → Situation → List Pick → Option Situation
after_schedule setting now [] = Some now
after_schedule setting now (pick ∷ picks) =
    option_and_then (λ next. after_schedule setting next picks) (after_pick setting now pick)

-- each core has stopped
abbrev pub HasEnded : State → Type 0
HasEnded state =
    (core : ℕ) → core < state.count → (regs : Regs) × ((stop : Stop) × (state.cores core ≡ Halted regs stop))
