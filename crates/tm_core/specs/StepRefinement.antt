-- What a step does to what a machine shows: memory, and the views of the cores, where no store is pending. It is no
-- part of what is promised: the proofs show that it is the owed step.
use Rattle.std.specs.Prelude.{Option, Some, None, ℕ, ◌+◌, ◌-◌, Bool, ◌||◌, List, [], ◌∷◌, ◌++◌, if◌then◌else◌, map}
use Rattle.std.specs.Prelude.{slice_index}
use Rattle.std.specs.Prelude.{unwrap_or, nat_eq}
use Rattle.std.specs.FinSet as set
use Rattle.std.specs.FinMap as map_of
use Rattle.std.specs.List.{list_any}
use Rattle.ia_word.specs.Line.{line}
use Rattle.tm_buffer.specs.Buffer.{with_bytes, memory_with}
use Rattle.tm_model.specs.declared.outcome.Event.TheVariants as event
use Rattle.tm_model.specs.Access.{Stores, addresses_of, memory_after, stored_addresses, stores_of}
use Rattle.tm_model.specs.Owed.{cause_of_interference, have_room, status_at}
use Rattle.tm_model.specs.Setting.{Setting, outside_at, value_at}
use Rattle.tm_model.specs.Shown.{Buffer, View, view_between, view_outside}
use Rattle.tm_model.specs.Steps.{registers_after_abort}
use Rattle.tm_core.specs.Types.{Aborted, AbortedBy, AtStop, Begins, Begun, Capacity, Committed, Condemned, Conflict}
use Rattle.tm_core.specs.Types.{CoreState, Event, Interference}
use Rattle.tm_core.specs.Types.{Ends, Fails, Goes, GoesOn, Idle, Inside, InsideResult, Kind, Lines, Loaded, Mid, Nests}
use Rattle.tm_core.specs.Types.{Open, Outcome, OutsideResult, Plain, Read, Regs, Running, Stopped, Stops, Store, Write}

-- ---- bytes and lines

-- a byte as the transaction sees it
abbrev pub seen : Buffer → List ℕ → ℕ → ℕ
seen buffer memory address = unwrap_or (map_of.get buffer address) (slice_index memory address)

abbrev pub add_all : Lines → List ℕ → Lines
add_all lines [] = lines
add_all lines (address ∷ addresses) = set.insert (add_all lines addresses) (line address)

-- the addresses of the bytes of a store
abbrev pub store_addresses : Option Store → List ℕ
store_addresses None = []
store_addresses (Some store) = addresses_of store.addr store.width

-- ---- hits

-- lines that a step loads from or stores to
abbrev pub Touched : Type 0
Touched = List (Kind × ℕ)

abbrev pub lines_touched : Kind → List ℕ → Touched
lines_touched kind lines = map (λ line. (kind, line)) lines

abbrev pub addresses_touched : Kind → List ℕ → Touched
addresses_touched kind addresses = lines_touched kind (map line addresses)

-- the line is in either set where it is stored to, and in the write set where it is loaded from
abbrev pub line_hits : Lines → Lines → Kind → ℕ → Bool
line_hits reads writes Read line = set.contains writes line
line_hits reads writes Write line = set.contains reads line || set.contains writes line

abbrev pub lines_hit : Lines → Lines → Touched → Bool
lines_hit reads writes touched = list_any (λ each. line_hits reads writes each.0 each.1) touched

abbrev pub condemn_view : CoreState → View → View
condemn_view (Open depth) view = view_outside (Condemned depth) view.base
condemn_view Running view = view
condemn_view Mid view = view
condemn_view (Condemned depth) view = view
condemn_view (AtStop stop) view = view

abbrev pub view_after_hit : Touched → View → View
view_after_hit touched view =
    if lines_hit view.reads view.writes touched then condemn_view view.mode view else view

-- ---- a step of one core

pub record StepResult : Type 0 where
  pub outcome : Outcome
  pub memory : List ℕ
  pub view : View  -- of the core that stepped
  pub touched : Touched  -- that others see

abbrev pub quit : Setting → List ℕ → View → ℕ → StepResult
quit setting memory view status = record {
  outcome = Aborted status;
  memory = memory;
  view = view_outside Running (registers_after_abort setting view.base status);
  touched = [];
}

abbrev pub begun_view : Regs → Regs → View
begun_view base regs = record {
  mode = Open 1;
  base = base;
  regs = regs;
  kept = 0;
  buffer = map_of.empty;
  reads = set.empty;
  writes = set.empty;
}

-- an instruction's load and store
abbrev pub touched_by : List ℕ → Option Store → Touched
touched_by loads store = addresses_touched Read loads ++ addresses_touched Write (stored_addresses (stores_of store))

-- an instruction that stores here and has these loads: the whole, or the second step of two
abbrev pub stored : List ℕ → List ℕ → Regs → Option Store → StepResult
stored memory loads regs store = record {
  outcome = Plain;
  memory = memory_after memory (stores_of store);
  view = view_outside Running regs;
  touched = touched_by loads store;
}

-- the first step of two
abbrev pub loaded : List ℕ → List ℕ → Regs → ℕ → StepResult
loaded memory loads base value = record {
  outcome = Loaded;
  memory = memory;
  view = view_between base value;
  touched = touched_by loads None;
}

abbrev pub ran : Setting → List ℕ → Regs → OutsideResult → StepResult
ran setting memory base (Goes regs store) =
    if setting.takes_two_steps base
    then loaded memory (setting.load_of base) base (value_at setting base memory)
    else stored memory (setting.load_of base) regs store
ran setting memory base (Begins regs) =
    record { outcome = Begun; memory = memory; view = begun_view base regs; touched = [] }
ran setting memory base (Stops stop) =
    record { outcome = Stopped stop; memory = memory; view = view_outside (AtStop stop) base; touched = [] }

-- the second step of two, which goes on
abbrev pub ran_on : List ℕ → View → OutsideResult → StepResult
ran_on memory view (Goes regs store) = stored memory [] regs store
ran_on memory view (Begins regs) = record { outcome = Plain; memory = memory; view = view; touched = [] }
ran_on memory view (Stops stop) = record { outcome = Plain; memory = memory; view = view; touched = [] }

-- an instruction of a transaction with these loads, whose sets and buffer are then those of the view
abbrev pub stayed : List ℕ → List ℕ → View → StepResult
stayed memory loads view =
    record { outcome = Inside; memory = memory; view = view; touched = addresses_touched Read loads }

abbrev pub finished : List ℕ → View → StepResult
finished memory view = record {
  outcome = Committed;
  memory = memory_with view.buffer memory;
  view = view_outside Running view.regs;
  touched = lines_touched Write (set.items view.writes);
}

abbrev pub if_room : Setting → List ℕ → View → ℕ → View → StepResult → StepResult
if_room setting memory view depth next result =
    if have_room setting next.reads next.writes then result else quit setting memory view (status_at Capacity depth)

abbrev pub grows : View → ℕ → Regs → List ℕ → Stores → View
grows view depth regs addresses stores = record {
  mode = Open depth;
  base = view.base;
  regs = regs;
  kept = 0;
  buffer = with_bytes view.buffer stores;
  reads = add_all view.reads addresses;
  writes = add_all view.writes (stored_addresses stores);
}

abbrev pub ended : List ℕ → List ℕ → View → ℕ → StepResult
ended memory loads view depth = if nat_eq depth 1 then finished memory view else stayed memory loads view

abbrev pub ran_inside : Setting → List ℕ → View → ℕ → List ℕ → InsideResult → StepResult
ran_inside setting memory view depth addresses (GoesOn regs store) =
    let next = grows view depth regs addresses (stores_of store) in
    if_room setting memory view depth next (stayed memory addresses next)
ran_inside setting memory view depth addresses (Nests regs) =
    let next = grows view (depth + 1) regs addresses [] in
    if_room setting memory view depth next (stayed memory addresses next)
ran_inside setting memory view depth addresses (Ends regs) =
    let next = grows view (depth - 1) regs addresses [] in
    if_room setting memory view depth next (ended memory addresses next depth)
ran_inside setting memory view depth addresses (Fails cause) = quit setting memory view (status_at cause depth)

abbrev pub stepped : Setting → List ℕ → View → CoreState → StepResult
stepped setting memory view Running = ran setting memory view.base (outside_at setting view.base memory)
stepped setting memory view Mid = ran_on memory view (setting.outside view.base view.kept)
stepped setting memory view (Open depth) =
    ran_inside setting memory view depth (setting.load_of view.regs)
    (setting.inside view.regs depth
    (setting.value_of view.regs (map (seen view.buffer memory) (setting.load_of view.regs))))
stepped setting memory view (Condemned depth) = quit setting memory view (status_at Conflict depth)
stepped setting memory view (AtStop stop) = record { outcome = Idle; memory = memory; view = view; touched = [] }

-- an abort from outside of the program
abbrev pub quit_by : Interference → Setting → List ℕ → View → ℕ → StepResult
quit_by by setting memory view status = record {
  outcome = AbortedBy by status;
  memory = memory;
  view = view_outside Running (registers_after_abort setting view.base status);
  touched = [];
}

-- a step under an event, or under none; there is nothing to drain
abbrev pub stepped_under : Option Event → Setting → List ℕ → View → CoreState → StepResult
stepped_under None setting memory view mode = stepped setting memory view mode
stepped_under (Some event.Drain) setting memory view mode = stepped setting memory view mode
stepped_under (Some (event.Abort by)) setting memory view (Open depth) =
    quit_by by setting memory view (status_at (cause_of_interference by) depth)
stepped_under (Some (event.Abort by)) setting memory view mode = stepped setting memory view mode

-- the views of all cores after a step of the core of this number
abbrev pub views_after : (ℕ → View) → ℕ → StepResult → ℕ → View
views_after views number result other =
    if nat_eq other number then result.view else view_after_hit result.touched (views other)
