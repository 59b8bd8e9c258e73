-- The outcome that is owed by a core's next step: the first of these rules that applies. So no transaction aborts
-- without its cause, and none that has a cause goes on (SDM volume 1, 16.3.5 and 16.3.8).
use Rattle.std.specs.Prelude.{ℕ, Bool, ◌&&◌, not, if◌then◌else◌, List, [], ◌∷◌, ◌++◌, Option, Some, None, nat_eq}
use Rattle.std.specs.Prelude.{nat_lt}
use Rattle.std.specs.Prelude.{unwrap_or}
use Rattle.std.specs.FinSet as set
use Rattle.tm_status.specs.Status.{status_of}
use Rattle.tm_status.specs.declared.cause.Cause.TheVariants as cause
use Rattle.tm_model.specs.declared.outcome.Event.TheVariants as event
use Rattle.tm_model.specs.declared.outcome.Interference.TheVariants as by
use Rattle.tm_model.specs.Access.{Lines, Stores, lines_of, stored_addresses, stores_of}
use Rattle.tm_model.specs.Isolated.{Body, instruction_after, isolated_body}
use Rattle.tm_model.specs.Setting.{Setting, outside_at}
use Rattle.tm_model.specs.State.{Closed, Core, Halted, Midway, Opened, Pending, seen_memory}
use Rattle.tm_model.specs.Steps.{must_wait}
use Rattle.tm_model.specs.Types.{Aborted, AbortedBy, Begins, Begun, Capacity, Cause, Committed, Conflict, Drained, Ends}
use Rattle.tm_model.specs.Types.{Event, Fails, Goes, GoesOn, Idle, Inside, InsideResult, Interference, Loaded, Nests}
use Rattle.tm_model.specs.Types.{Outcome, OutsideResult}
use Rattle.tm_model.specs.Types.{Plain, Stopped, Stops}

-- the status of an abort at this depth, and its outcome
abbrev pub status_at : Cause → ℕ → ℕ
status_at cause depth = status_of cause (nat_lt 1 depth)

abbrev pub abort_at : Cause → ℕ → Outcome
abort_at cause depth = Aborted (status_at cause depth)

-- ---- outside of transactions

abbrev pub owed_outside : Bool → OutsideResult → Outcome
owed_outside two_steps (Stops stop) = Stopped stop
owed_outside two_steps (Begins regs) = Begun
owed_outside two_steps (Goes regs store) = if two_steps then Loaded else Plain

-- ---- inside

abbrev pub have_room : Setting → Lines → Lines → Bool
have_room setting reads writes =
    not (nat_lt setting.read_lines (set.len reads)) && not (nat_lt setting.write_lines (set.len writes))

-- this outcome, where the body's lines with those of its next instruction have room
abbrev pub owed_with_room : Setting → Body → Stores → Outcome → Outcome
owed_with_room setting body stores outcome =
    if have_room setting
    (lines_of (setting.load_of body.regs ++ body.loads))
    (lines_of (stored_addresses (stores ++ body.stores)))
    then outcome
    else abort_at Capacity body.depth

abbrev pub owed_inside : Setting → Body → InsideResult → Outcome
owed_inside setting body (Fails cause) = abort_at cause body.depth
owed_inside setting body (GoesOn regs store) = owed_with_room setting body (stores_of store) Inside
owed_inside setting body (Nests regs) = owed_with_room setting body [] Inside
owed_inside setting body (Ends regs) =
    owed_with_room setting body [] (if nat_eq body.depth 1 then Committed else Inside)

-- an open core has a body in each state that a run reaches
abbrev pub owed_after : Setting → List ℕ → Option Body → Outcome
owed_after setting memory None = Idle
owed_after setting memory (Some body) = owed_inside setting body (instruction_after setting memory body)

-- ---- every step

-- of a core, with its depth where it is doomed
abbrev pub owed_outcome : Setting → List ℕ → Core → Option ℕ → Outcome
owed_outcome setting memory (Halted regs stop) doom = Idle
owed_outcome setting memory core (Some depth) = abort_at Conflict depth
owed_outcome setting memory (Midway regs value) None = Plain
owed_outcome setting memory (Closed regs) None =
    owed_outside (setting.takes_two_steps regs) (outside_at setting regs memory)
owed_outcome setting memory (Opened regs steps) None =
    owed_after setting memory (isolated_body setting regs memory steps)

-- ---- with stores pending

-- the outcome that is owed to what the core sees, or the oldest store reaches memory in its place
abbrev pub owed_with_pending : Setting → List ℕ → Pending → Core → Option ℕ → Outcome
owed_with_pending setting memory pending core doom =
    let seen : List ℕ = seen_memory memory pending in
    let outcome : Outcome = owed_outcome setting seen core doom in
    if must_wait setting seen pending core outcome then Drained else outcome

-- ---- a step under an event

-- the cause that the status is made of (SDM volume 1, 16.3.5)
abbrev pub cause_of_interference : Interference → Cause
cause_of_interference by.Interrupt = cause.Other
cause_of_interference by.Eviction = Capacity
cause_of_interference by.Snoop = Conflict

abbrev pub abort_by : Interference → ℕ → Outcome
abort_by by depth = AbortedBy by (status_at (cause_of_interference by) depth)

-- an open core has a body in each state that a run reaches
abbrev pub depth_of : Option Body → ℕ
depth_of None = 0
depth_of (Some body) = body.depth

-- A store that is pending reaches memory at any time, whatever its core is at. The transaction of a core that is open
-- and not doomed is aborted, whatever its next instruction; a doomed one aborts by its conflict, and outside of
-- transactions such an event changes nothing that a program sees. There is none where an event befalls nothing.
abbrev pub outcome_of_event : Option Event → Setting → List ℕ → Pending → Core → Option ℕ → Option Outcome
outcome_of_event (Some event.Drain) setting memory (oldest ∷ younger) core doom = Some Drained
outcome_of_event (Some (event.Abort by)) setting memory pending (Opened regs steps) None =
    Some (abort_by by (depth_of (isolated_body setting regs (seen_memory memory pending) steps)))
outcome_of_event event setting memory pending core doom = None

-- where an event befalls nothing, the core steps
abbrev pub owed_under : Option Event → Setting → List ℕ → Pending → Core → Option ℕ → Outcome
owed_under event setting memory pending core doom =
    unwrap_or (outcome_of_event event setting memory pending core doom)
    (owed_with_pending setting memory pending core doom)
