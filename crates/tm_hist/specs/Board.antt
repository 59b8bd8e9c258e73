-- A machine with the history of its steps.
use Rattle.std.specs.Prelude.{◌≡◌, ◌≢◌, ◌⊎◌, ℕ, ◌≤◌, Bool, ◌||◌, List, [], ◌∷◌, ◌++◌, All, Option, Some, None, drop}
use Rattle.std.specs.Prelude.{false, length, nat_lt, refl}
use Rattle.std.specs.Coded.{Coded, code_by, coded×, coded_ℕ, coded_list}
use Rattle.ia_image.specs.Program.{ProgramValue as Program}
use Rattle.tm_rule.specs.declared.kinds.Stop.{Stop}
use Rattle.tm_core.specs.declared.limits.Limits.{Limits}
use Rattle.tm_model.specs.declared.outcome.CoreState.{CoreState}
use Rattle.tm_model.specs.declared.outcome.CoreState.TheVariants as state
use Rattle.tm_model.specs.declared.outcome.Outcome.{Outcome}
use Rattle.tm_model.specs.declared.outcome.Outcome.TheVariants.{Drained, Idle}
use Rattle.tm_model.specs.declared.outcome.Event.{Event}
use Rattle.tm_model.specs.declared.outcome.Event.TheVariants as event
use Rattle.tm_model.specs.Owed.{abort_by}
use Rattle.tm_model.specs.Runs.{AreOwed, IsOwedUnder, TellNoAbort, doomed_at_end, event_told, is_aborted_by}
use Rattle.tm_model.specs.Setting.{Setting, program_setting}
use Rattle.tm_model.specs.State.{Pending, State, opening_state}
use Rattle.tm_model.specs.Steps.{run}
use Rattle.tm_core.specs.Theorem.{AreOwedAlone, IsRun, ShownMachine as Machine, StandsFor, machine_setting}
use Rattle.tm_hist.specs.Machine.{shown_state}

-- what contracts see of a board: the program, how many lines a transaction may touch, how many steps there may be,
-- those that were made, each with its core and its outcome, and the machine
pub record ShownBoard : Type 0 where
  pub program : Program
  pub limits : Limits
  pub limit : ℕ
  pub history : List (ℕ × Outcome)
  pub machine : Machine

abbrev pub program_code : Coded Program
program_code =
    code_by (List ℕ × (ℕ × (ℕ × (ℕ × List ℕ))))
    (coded× (coded_list coded_ℕ) (coded× coded_ℕ (coded× coded_ℕ (coded× coded_ℕ (coded_list coded_ℕ)))))
    (λ program. (program.bytes, (program.base, (program.code_len, (program.mem_size, program.entries)))))
    (λ parts. record {
      bytes = parts.0;
      base = parts.1.0;
      code_len = parts.1.1.0;
      mem_size = parts.1.1.1.0;
      entries = parts.1.1.1.1;
    })
    (λ _. refl)

abbrev pub board_code : Coded Limits → Coded Outcome → Coded Machine → Coded ShownBoard
board_code limits outcome machine =
    code_by (Program × (Limits × (ℕ × (List (ℕ × Outcome) × Machine))))
    (coded× program_code (coded× limits (coded× coded_ℕ (coded× (coded_list (coded× coded_ℕ outcome)) machine))))
    (λ board. (board.program, (board.limits, (board.limit, (board.history, board.machine)))))
    (λ parts. record {
      program = parts.0;
      limits = parts.1.0;
      limit = parts.1.1.0;
      history = parts.1.1.1.0;
      machine = parts.1.1.1.1;
    })
    (λ _. refl)

-- the rules of its program's machine
abbrev pub board_setting : ShownBoard → Setting
board_setting board =
    program_setting board.program board.limits.read_lines board.limits.write_lines board.limits.stores

-- the machine is the run of the history from the program's opening state, and each outcome of the history is the owed
-- one
pub record IsHistory (board : ShownBoard) : Type 0 where
  pub rules : machine_setting board.machine ≡ board_setting board
  pub cores : length board.machine.views ≡ length board.program.entries
  pub end : State
  pub is_run : run (board_setting board) (opening_state board.program) board.history ≡ Some end
  pub are_owed : AreOwed (board_setting board) (opening_state board.program) (λ _. None) board.history
  pub stands :
      StandsFor board.machine end
      (doomed_at_end (board_setting board) (opening_state board.program) (λ _. None) board.history)

-- the same of a machine that began at start, as it is kept between steps
pub record IsBoard (board : ShownBoard) (capacity : ℕ) : Type 0 where
  pub start : Machine
  pub rules : machine_setting start ≡ board_setting board
  pub cores : length start.views ≡ length board.program.entries
  pub is_run : IsRun start board.machine (opening_state board.program) (λ _. None) board.history
  pub few : length board.history ≤ board.limit
  pub limited : board.limit ≤ 16777216
  pub room : board.limit ≤ capacity

-- the limit on steps is not 1 to 16,777,216
abbrev pub bad_limit : ℕ → Bool
bad_limit n = nat_lt n 1 || nat_lt 16777216 n

-- a board before its first step
pub record IsNew (p : Program) (l : Limits) (most : ℕ) (b : ShownBoard) : Type 0 where
  pub program : b.program ≡ p
  pub limits : b.limits ≡ l
  pub limit : b.limit ≡ most
  pub history : b.history ≡ []

-- what no step changes
pub record SameBoard (old new : ShownBoard) : Type 0 where
  pub program : new.program ≡ old.program
  pub limits : new.limits ≡ old.limits
  pub limit : new.limit ≡ old.limit

-- why a core stopped, where it did
abbrev pub stop_shown : CoreState → Option Stop
stop_shown (state.Stopped why) = Some why
stop_shown state.Running = None
stop_shown state.Mid = None
stop_shown (state.Open depth) = None
stop_shown (state.Condemned depth) = None

-- the core has stopped
abbrev pub IsStopped : ShownBoard → ℕ → Type 0
IsStopped b core = (why : Stop) × (stop_shown (shown_state b.machine core) ≡ Some why)

-- the history has no room
abbrev pub IsFull : ShownBoard → Type 0
IsFull b = length b.history ≡ b.limit

-- the outcome of a core's next step is the one that is owed under this event, or under none, behind the history
abbrev pub IsOwedNext : Option Event → ShownBoard → ℕ → Outcome → Type 0
IsOwedNext event board core outcome =
    (end : State) → run (board_setting board) (opening_state board.program) board.history ≡ Some end →
    IsOwedUnder event (board_setting board) end
    (doomed_at_end (board_setting board) (opening_state board.program) (λ _. None) board.history) core outcome

-- so are the outcomes of these steps, each under no event: a store reaches memory where the step waits for that
abbrev pub AreOwedNext : ShownBoard → List (ℕ × Outcome) → Type 0
AreOwedNext board steps =
    (end : State) → run (board_setting board) (opening_state board.program) board.history ≡ Some end →
    AreOwedAlone (board_setting board) end
    (doomed_at_end (board_setting board) (opening_state board.program) (λ _. None) board.history) steps

-- The same by what a core showed that had no store pending: its transaction is aborted at the depth that it had, and
-- anywhere else nothing is told of the event (SDM volume 1, 16.3.8), nor of a drain.
abbrev pub TellsAsShown : Event → CoreState → Outcome → Type 0
TellsAsShown (event.Abort by) (state.Open depth) outcome = outcome ≡ abort_by by depth
TellsAsShown event state outcome = event_told outcome ≡ None

-- The same of a core with these stores pending: a drain brings the oldest of them to memory, whatever the core is at;
-- where none is aborted the step is that under no event, which tells of a drain where it waits.
abbrev pub TellsWithPending : Event → Pending → CoreState → Outcome → Type 0
TellsWithPending (event.Abort by) pending (state.Open depth) outcome = outcome ≡ abort_by by depth
TellsWithPending event.Drain (oldest ∷ younger) state outcome = outcome ≡ Drained
TellsWithPending event [] state outcome = event_told outcome ≡ None
TellsWithPending event (oldest ∷ younger) state outcome = is_aborted_by outcome ≡ false

-- the outcome tells of this event, or of none, or is a drain for which the step waits
abbrev pub TellsOf : Option Event → Outcome → Type 0
TellsOf event outcome = (event_told outcome ≡ None) ⊎ ((event_told outcome ≡ event) ⊎ (outcome ≡ Drained))

-- the pairs of a board's history behind those of an earlier one's
abbrev pub pairs_behind : ShownBoard → ShownBoard → List (ℕ × Outcome)
pairs_behind old new = drop (length old.history) new.history

-- so many steps of a core led from one board to the other, each owed under no event, none of them idle or aborted from
-- outside of the program, and none where the core had stopped
pub record AreSteps (old new : ShownBoard) (core made : ℕ) : Type 0 where
  pub same : SameBoard old new
  pub history : new.history ≡ old.history ++ pairs_behind old new
  pub count : length (pairs_behind old new) ≡ made
  pub own : All (λ (pair : ℕ × Outcome). (pair.0 ≡ core) × (pair.1 ≢ Idle)) (pairs_behind old new)
  pub owed : AreOwedNext old (pairs_behind old new)
  pub alone : TellNoAbort (pairs_behind old new)
  pub stops : (other : ℕ) → IsStopped old other → IsStopped new other
  pub stopped : IsStopped old core → made ≡ 0
