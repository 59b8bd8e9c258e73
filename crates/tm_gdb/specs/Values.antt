-- A target as contracts see it.
use Rattle.std.specs.Prelude.{ℕ, ◌-◌, ◌==◌, if◌then◌else◌, List, [], Option, Some, None, Vec, length, nat_le, nat_lt}
use Rattle.gdb_packet.specs.declared.command.Span.{Span}
use Rattle.tm_model.specs.declared.outcome.Event.{Event}
use Rattle.tm_model.specs.declared.outcome.Pick.{Pick}
use Rattle.tm_hist.specs.Board.{ShownBoard}
use Rattle.tm_gdb.specs.declared.stop.Stop.{Stop}
use Rattle.tm_gdb.specs.declared.stop.Stop.TheVariants.{Stepped}
use Rattle.tm_gdb.specs.declared.target.Target.{Target}

-- the board; the schedule, if there is one; the core that questions are about, and the one that moves are of, if one
-- was chosen; the addresses of breakpoints, and the watchpoints; the core that was last told as standing at a
-- breakpoint and has not stepped since; the event that the next step comes under; and why the target stands
pub record TargetValue : Type 0 where
  pub board : ShownBoard
  pub plan : Option (List Pick)
  pub selected : ℕ
  pub for_moves : Option ℕ
  pub breaks : List ℕ
  pub watches : List Span
  pub excused : Option ℕ
  pub event : Option Event
  pub stop : Stop

-- the picks of a schedule, if there is one
abbrev pub picks_in : {Z : Type 0} → Option (Vec Pick Z) → Option (List Pick)
picks_in None = None
picks_in (Some plan) = Some plan.items

abbrev pub value_of : Target → TargetValue
value_of target = record {
  board = target.board;
  plan = picks_in target.plan;
  selected = target.selected;
  for_moves = target.for_moves;
  breaks = target.points.breaks.items;
  watches = target.points.watches.items;
  excused = target.excused;
  event = target.event;
  stop = target.stop;
}

abbrev pub cores_of : TargetValue → ℕ
cores_of target = length target.board.program.entries

-- a core, and the first where the board has it not
abbrev pub core_in : TargetValue → ℕ → ℕ
core_in target core = if nat_lt core (cores_of target) then core else 0

-- the core that questions are about
abbrev pub core_of : TargetValue → ℕ
core_of target = core_in target target.selected

-- the core of moves: the one that was chosen for them, else the selected one
abbrev pub moved_by : Option ℕ → TargetValue → ℕ
moved_by None target = core_of target
moved_by (Some core) target = core_in target core

abbrev pub moved_core : TargetValue → ℕ
moved_core target = moved_by target.for_moves target

-- the core of a thread: 1 is the first core's, 0 the selected one's
abbrev pub thread_core : TargetValue → ℕ → Option ℕ
thread_core target thread =
    if thread == 0 then Some (core_of target)
    else if nat_le thread (cores_of target) then Some (thread - 1)
    else None

-- before the first packet: nothing is selected or set
abbrev pub start_with : ShownBoard → Option (List Pick) → TargetValue
start_with board plan = record {
  board = board;
  plan = plan;
  selected = 0;
  for_moves = None;
  breaks = [];
  watches = [];
  excused = None;
  event = None;
  stop = Stepped;
}
