-- A run that comes to a loop, and goes round in it for ever.
use Rattle.std.specs.Prelude.{◌≡◌, ℕ, zero, suc, ◌+◌, ◌<◌, ◌≤◌, ◌==◌, if◌then◌else◌, List, [], ◌∷◌, ◌++◌, length}
use Rattle.std.specs.Prelude.{Option, Some, None, drop, take}
use Rattle.tm_core.specs.Theorem.{IsRun, ShownMachine as Machine, machine_setting, pending_at, view_at}
use Rattle.tm_hist.specs.Board.{ShownBoard as Board, stop_shown}
use Rattle.tm_hist.specs.Machine.{shown_state}
use Rattle.tm_model.specs.Runs.{picks_of}
use Rattle.tm_model.specs.Conflicts.{Doomed}
use Rattle.tm_model.specs.Setting.{Setting, program_setting}
use Rattle.tm_model.specs.State.{State, opening_state}
use Rattle.tm_model.specs.declared.outcome.Outcome.{Outcome}
use Rattle.tm_model.specs.declared.outcome.Pick.{Pick}
use Rattle.tm_rule.specs.declared.kinds.Stop.{Stop}
use Rattle.tm_hunt.specs.Cost.{events_in}
use Rattle.tm_hunt.specs.Hunt.{RunsTo}
use Rattle.tm_hunt.specs.declared.cycle.Cycle.{Cycle}
use Rattle.tm_hunt.specs.declared.failure.Failure.{Failure}
use Rattle.tm_hunt.specs.declared.trial.Trial.{Trial}

-- ---- machines

-- the rules of a trial's machine
abbrev pub trial_setting : Trial → Setting
trial_setting trial =
    program_setting trial.program.now trial.limits.read_lines trial.limits.write_lines trial.limits.stores

pub record IsMachineOf (trial : Trial) (machine : Machine) : Type 0 where
  pub rules : machine_setting machine ≡ trial_setting trial
  pub cores : length machine.views ≡ length trial.program.now.entries

-- the cores below a number are shown alike
abbrev pub AreCoresAlike : Machine → Machine → ℕ → Type 0
AreCoresAlike a b count = (core : ℕ) → core < count → view_at a core ≡ view_at b core

-- and so are their stores that are pending
abbrev pub ArePendingAlike : Machine → Machine → ℕ → Type 0
ArePendingAlike a b count = (core : ℕ) → core < count → pending_at a core ≡ pending_at b core

-- what is shown of memory and of each core is the same, with the stores that are pending
pub record AreAlike (a b : Machine) : Type 0 where
  pub memory : a.memory ≡ b.memory
  pub count : length a.views ≡ length b.views
  pub each : AreCoresAlike a b (length a.views)
  pub pending : ArePendingAlike a b (length a.views)

-- these steps lead from a machine to another one, in each run that comes to the first
pub record Makes (before after : Machine) (picks : List Pick) : Type 0 where
  pub history : List (ℕ × Outcome)
  pub told : picks_of history ≡ picks
  pub runs : (start : Machine) (state : State) (doomed : Doomed) (earlier : List (ℕ × Outcome)) →
      IsRun start before state doomed earlier → IsRun start after state doomed (earlier ++ history)

-- a machine that was opened with the program has made these steps
pub record CameBy (trial : Trial) (machine : Machine) (picks : List Pick) : Type 0 where
  pub start : Machine
  pub of_trial : IsMachineOf trial start
  pub history : List (ℕ × Outcome)
  pub told : picks_of history ≡ picks
  pub is_run : IsRun start machine (opening_state trial.program.now) (λ _. None) history

-- the run of this schedule from the program's opening state comes to what this machine shows
abbrev pub LeadsTo : Trial → List Pick → Machine → Type 0
LeadsTo trial picks machine = (board : Board) × RunsTo trial picks board × (board.machine ≡ machine)

-- ---- rounds

-- how many of these steps are of a core
abbrev pub steps_by : ℕ → List Pick → ℕ
steps_by core [] = 0
steps_by core (pick ∷ picks) = (if pick.core == core then 1 else 0) + steps_by core picks

-- how often a core steps in a round: once, and not at all where it has stopped
abbrev pub turns_of : Option Stop → ℕ
turns_of None = 1
turns_of (Some why) = 0

-- each core below a number that has not stopped steps once
abbrev pub EachOnce : Machine → List Pick → ℕ → Type 0
EachOnce machine round count =
    (core : ℕ) → core < count → steps_by core round ≡ turns_of (stop_shown (shown_state machine core))

-- each core that has not stopped steps once, under no event
pub record IsRound (machine : Machine) (round : List Pick) : Type 0 where
  pub once : EachOnce machine round (length machine.views)
  pub alone : events_in round ≡ 0

-- so many times these steps
abbrev pub again : ℕ → List Pick → List Pick
again zero picks = []
again (suc times) picks = picks ++ again times picks

-- the first of these lists is the other one, again and again
abbrev pub IsAgain : List Pick → List Pick → Type 0
IsAgain picks round = (times : ℕ) × (picks ≡ again times round)

-- some rounds, each core in the same turn
pub record AreRounds (machine : Machine) (picks : List Pick) : Type 0 where
  pub round : List Pick
  pub is_round : IsRound machine round
  pub is_again : IsAgain picks round

-- ---- a loop

abbrev pub before_loop : List Pick → Cycle → List Pick
before_loop picks cycle = take cycle.start picks

abbrev pub loop_of : List Pick → Cycle → List Pick
loop_of picks cycle = take cycle.steps (drop cycle.start picks)

-- The steps before the loop lead to what a machine shows, of memory and of each core, and so they do with the loop
-- behind them, however often. The loop is whole rounds of the cores that have not stopped there, so that none of them
-- ever stops.
pub record GoesRound (trial : Trial) (picks : List Pick) (cycle : Cycle) : Type 0 where
  pub within : cycle.start + cycle.steps ≤ length picks
  pub some : 0 < cycle.steps
  pub machine : Machine
  pub for_ever : (times : ℕ) → LeadsTo trial (before_loop picks cycle ++ again times (loop_of picks cycle)) machine
  pub rounds : AreRounds machine (loop_of picks cycle)

-- it begins behind the steps of a failing run that decide
pub record IsCycle (trial : Trial) (failure : Failure) (cycle : Cycle) : Type 0 where
  pub behind : failure.front ≤ cycle.start
  pub goes_round : GoesRound trial failure.picks.items cycle
