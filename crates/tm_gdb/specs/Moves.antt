-- Steps of a target, one at a time and in a run (gdb manual, appendix E.2, `vCont`, `c` and `s`).
use Rattle.std.specs.Prelude.{◌≡◌, ℕ, zero, suc, ◌+◌, ◌%◌, ◌==◌, ◌&&◌, Bool, true, false, not, if◌then◌else◌, List}
use Rattle.std.specs.Prelude.{[], ◌∷◌}
use Rattle.std.specs.Prelude.{◌++◌, Option, Some, None, length, nat_eq, nat_lt, unwrap_or}
use Rattle.std.specs.Option.{option_or}
use Rattle.std.specs.List.{list_any, slice_get}
use Rattle.gdb_packet.specs.Actions.{action_of}
use Rattle.gdb_packet.specs.declared.command.Action.{Action}
use Rattle.gdb_packet.specs.declared.command.Action.TheVariants.{Step, Continue}
use Rattle.gdb_packet.specs.declared.command.Actions.{Actions}
use Rattle.gdb_packet.specs.declared.command.ThreadAction.{ThreadAction}
use Rattle.tm_debug.specs.Session.{is_stopped, next_behind, plain_pick}
use Rattle.tm_hist.specs.Board.{IsHistory, IsOwedNext, SameBoard, ShownBoard}
use Rattle.tm_model.specs.declared.outcome.Event.{Event}
use Rattle.tm_model.specs.declared.outcome.Outcome.{Outcome}
use Rattle.tm_model.specs.declared.outcome.Pick.{Pick}
use Rattle.tm_gdb.specs.declared.run.Check.{Check}
use Rattle.tm_gdb.specs.declared.run.Check.TheVariants as check
use Rattle.tm_gdb.specs.declared.turns.Goers.{Goers}
use Rattle.tm_gdb.specs.declared.turns.Goers.TheVariants.{All, One, Those}
use Rattle.tm_gdb.specs.declared.stop.Stop.{Stop}
use Rattle.tm_gdb.specs.declared.stop.Stop.TheVariants as stop
use Rattle.tm_gdb.specs.Points.{changed_at, stands_at}
use Rattle.tm_gdb.specs.Stops.{stop_of}
use Rattle.tm_gdb.specs.Values.{TargetValue, cores_of, moved_core, core_of}

-- ---- one step

-- one step of a core more, whose outcome is the owed one under this event
pub record IsOneMore (event : Option Event) (old : ShownBoard) (core : ℕ) (outcome : Outcome) (new : ShownBoard)
    : Type 0 where
  pub same : SameBoard old new
  pub history : new.history ≡ old.history ++ (core, outcome) ∷ []
  pub owed : IsOwedNext event old core outcome
  pub law : IsHistory new

-- the core that stands at a told breakpoint is excused up to its own next step
abbrev pub excused_behind : Option ℕ → ℕ → Option ℕ
excused_behind None core = None
excused_behind (Some held) core = if held == core then None else Some held

-- what a step tells: a watchpoint at which the core sees other bytes than before it, else how the core has stopped
abbrev pub told_by : Option ℕ → Outcome → Option Stop
told_by (Some address) outcome = Some (stop.Watch address)
told_by None outcome = stop_of outcome

-- a step by this pick, and what it tells. It comes under the event that was told for the next step, else under the
-- pick's
pub record IsStep (from : TargetValue) (pick : Pick) (told : Option Stop) (to : TargetValue) : Type 0 where
  pub outcome : Outcome
  pub more : IsOneMore (option_or from.event pick.event) from.board pick.core outcome to.board
  pub tells : told ≡ told_by (changed_at from.watches pick.core from.board.machine to.board.machine) outcome
  pub to_is : to ≡ record from {
    board = to.board;
    selected = pick.core;
    excused = excused_behind from.excused pick.core;
    event = None;
  }

abbrev pub is_full : ShownBoard → Bool
is_full board = nat_eq (length board.history) board.limit

-- a step of one core: no step of a core that has stopped, and none where the history is full
pub record IsStepAlone (core : ℕ) (from to : TargetValue) : Type 0 where
  pub between : TargetValue
  pub told : Option Stop
  pub step : IsStep from (plain_pick core) told between
  pub to_is : to ≡ record between { excused = None; stop = unwrap_or told stop.Stepped }

abbrev pub can_step : ShownBoard → ℕ → Bool
can_step board core = not (is_full board) && not (is_stopped board core)

abbrev pub steps_alone_by : Bool → ℕ → TargetValue → TargetValue → Type 0
steps_alone_by true core from to = IsStepAlone core from to
steps_alone_by false core from to = to ≡ record from { selected = core; stop = stop.End }

abbrev pub StepsAlone : ℕ → TargetValue → TargetValue → Type 0
StepsAlone core from to = steps_alone_by (can_step from.board core) core from to

-- ---- whose turn it is in a run

abbrev pub is_step : Option Action → Bool
is_step (Some Step) = true
is_step (Some Continue) = false
is_step None = false

abbrev pub is_continue : Option Action → Bool
is_continue (Some Continue) = true
is_continue (Some Step) = false
is_continue None = false

-- a core is to step, or to go on; its thread is one number higher
abbrev pub steps : Actions → ℕ → Bool
steps actions core = is_step (action_of actions (core + 1))

abbrev pub continues : Actions → ℕ → Bool
continues actions core = is_continue (action_of actions (core + 1))

-- an action names a thread that there is not, of so many cores
abbrev pub is_stranger : ℕ → Option ThreadAction → Bool
is_stranger cores None = false
is_stranger cores (Some entry) = nat_lt cores entry.thread

abbrev pub names_stranger : Actions → ℕ → Bool
names_stranger actions cores = list_any (is_stranger cores) actions.chosen

-- a core is among those that go on
abbrev pub goes : Goers → ℕ → Bool
goes All core = true
goes (One own) core = own == core
goes (Those actions) core = continues actions core

-- the first core from this number on that goes on and has not stopped, round by round, of so many that are asked
abbrev pub going_from : Goers → ShownBoard → ℕ → ℕ → Option ℕ
going_from goers board core zero = None
going_from goers board core (suc left) =
    if goes goers (core % length board.program.entries)
    && not (is_stopped board (core % length board.program.entries))
    then Some (core % length board.program.entries)
    else going_from goers board (core + 1) left

abbrev pub plainly : Option ℕ → Option Pick
plainly None = None
plainly (Some core) = Some (plain_pick core)

-- round by round, from behind the core that was stepped last
abbrev pub turn_pick : Goers → ShownBoard → Option Pick
turn_pick goers board =
    plainly (going_from goers board (next_behind board.history) (length board.program.entries))

-- a pick of a core that there is
abbrev pub known_pick : ShownBoard → Option Pick → Option Pick
known_pick board None = None
known_pick board (Some pick) = if nat_lt pick.core (length board.program.entries) then Some pick else None

-- the pick that a schedule has behind the steps that are made
abbrev pub planned_pick : List Pick → ShownBoard → Option Pick
planned_pick plan board = known_pick board (slice_get plan (length board.history))

-- all cores go along the schedule, where there is one; some of them go round by round
abbrev pub next_pick : Goers → Option (List Pick) → ShownBoard → Option Pick
next_pick All (Some plan) board = planned_pick plan board
next_pick All None board = turn_pick All board
next_pick (One own) plan board = turn_pick (One own) board
next_pick (Those actions) plan board = turn_pick (Those actions) board

-- ---- a run

abbrev pub is_excused : Option ℕ → ℕ → Bool
is_excused None core = false
is_excused (Some held) core = held == core

-- a breakpoint at which a core stands is to be told
abbrev pub is_to_tell : TargetValue → ℕ → Bool
is_to_tell target core =
    not (is_excused target.excused core) && stands_at target.breaks target.board.machine core

-- before a step by this pick: whether there is room for it, and whether its core stands at a breakpoint
abbrev pub pick_check : Option Pick → TargetValue → Check
pick_check None target = check.End
pick_check (Some pick) target =
    if is_full target.board then check.End
    else if is_to_tell target pick.core then check.Break pick.core
    else check.Go pick

abbrev pub run_check : Goers → TargetValue → Check
run_check goers target = pick_check (next_pick goers target.plan target.board) target

-- a core among those that go on, of so many from this number on, and this one where there is none
abbrev pub goer_from : Goers → ℕ → ℕ → ℕ → ℕ
goer_from goers core zero other = other
goer_from goers core (suc left) other = if goes goers core then core else goer_from goers (core + 1) left other

-- of whom an end is told: the selected core, where it goes on, else the first that does
abbrev pub end_core : Goers → TargetValue → ℕ
end_core goers target =
    if goes goers (core_of target) then core_of target else goer_from goers 0 (cores_of target) (core_of target)

-- a run of these cores. Before each step it is asked whether it ends there; a step that tells something ends it as well
pub data Continues (goers : Goers) : TargetValue → TargetValue → Type 0 where
  ends : {from to : TargetValue} → run_check goers from ≡ check.End
      → to ≡ record from { selected = end_core goers from; stop = stop.End } → Continues goers from to
  stands : {from to : TargetValue} {core : ℕ} → run_check goers from ≡ check.Break core
      → to ≡ record from { selected = core; excused = Some core; stop = stop.Break } → Continues goers from to
  tells : {from between to : TargetValue} {pick : Pick} {told : Stop} → run_check goers from ≡ check.Go pick
      → IsStep from pick (Some told) between → to ≡ record between { stop = told } → Continues goers from to
  goes_on : {from between to : TargetValue} {pick : Pick} → run_check goers from ≡ check.Go pick
      → IsStep from pick None between → Continues goers between to → Continues goers from to

-- ---- what `vCont`, `s` and `c` do

-- the first of so many cores from this number on that is to step
abbrev pub stepping_from : Actions → ℕ → ℕ → Option ℕ
stepping_from actions core zero = None
stepping_from actions core (suc left) =
    if steps actions core then Some core else stepping_from actions (core + 1) left

-- the core that is to step: that of moves, where it is among them, else the first
abbrev pub stepping_core : Actions → TargetValue → Option ℕ
stepping_core actions target =
    if steps actions (moved_core target) then Some (moved_core target)
    else stepping_from actions 0 (cores_of target)

-- all, and some, of so many cores from this number on are to go on
abbrev pub all_continue : Actions → ℕ → ℕ → Bool
all_continue actions core zero = true
all_continue actions core (suc left) =
    if continues actions core then all_continue actions (core + 1) left else false

abbrev pub some_continue : Actions → ℕ → ℕ → Bool
some_continue actions core zero = false
some_continue actions core (suc left) =
    if continues actions core then true else some_continue actions (core + 1) left

abbrev pub goers_of : Actions → ℕ → Option Goers
goers_of actions cores =
    if all_continue actions 0 cores then Some All
    else if some_continue actions 0 cores then Some (Those actions)
    else None

-- where no core goes on, nothing is done
abbrev pub continues_by : Option Goers → TargetValue → TargetValue → Type 0
continues_by None from to = to ≡ from
continues_by (Some goers) from to = Continues goers from to

abbrev pub resumes_by : Option ℕ → Actions → TargetValue → TargetValue → Type 0
resumes_by (Some core) actions from to = StepsAlone core from to
resumes_by None actions from to = continues_by (goers_of actions (cores_of from)) from to

-- if a core is to step, one does, and no other moves; else those go on that are to
abbrev pub Resumes : Actions → TargetValue → TargetValue → Type 0
Resumes actions from to = resumes_by (stepping_core actions from) actions from to

-- `c`: all go on, or the one that was chosen for moves
abbrev pub selected_goers : Option ℕ → TargetValue → Goers
selected_goers None target = All
selected_goers (Some core) target = One (moved_core target)
