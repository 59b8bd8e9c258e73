-- What each step does to memory and to its own core. An instruction outside a transaction is its row of the table, in
-- one step or in two; a commit is the whole body, run by itself at its XEND; an abort changes EAX and EIP alone;
-- every other step inside a transaction changes nothing (SDM volume 1, 16.2.2 and 16.3.5). All of this is said of
-- memory as the core sees it; what it stores outside of transactions may be pending for a while.
use Rattle.std.specs.Prelude.{ℕ, suc, Bool, true, false, not, ◌||◌, if◌then◌else◌, List, [], ◌∷◌, ◌++◌, slice_set}
use Rattle.std.specs.Prelude.{length, Option, Some, None, option_map, option_and_then, nat_eq, nat_lt}
use Rattle.tm_rule.specs.declared.kinds.Stop.TheVariants as why
use Rattle.tm_model.specs.Access.{memory_after, stores_of}
use Rattle.tm_model.specs.Isolated.{Body, isolated_body}
use Rattle.tm_model.specs.Setting.{Setting, outside_at, value_at}
use Rattle.tm_model.specs.State.{Closed, Core, Halted, Midway, Opened, Pending, State, seen_memory, with_store}
use Rattle.tm_model.specs.Types.{Aborted, AbortedBy, Begins, Begun, Committed, Drained, Goes, Idle, Inside, Loaded}
use Rattle.tm_model.specs.Types.{Outcome, OutsideResult, Plain, Regs, Stop, Stopped, Stops, Store}

-- memory and the core after a step; nothing where the rules do not allow the step
abbrev pub Change : Type 0
Change = Option (List ℕ × Core)

-- ---- outside of transactions

-- the whole instruction, or the second step of one that takes two
abbrev pub after_plain : List ℕ → OutsideResult → Change
after_plain memory (Goes regs store) = Some (memory_after memory (stores_of store), Closed regs)
after_plain memory (Begins regs) = None
after_plain memory (Stops stop) = None

-- the first step of an instruction that takes two: the core keeps the value, and all else stays
abbrev pub after_load : List ℕ → Regs → ℕ → OutsideResult → Change
after_load memory regs value (Goes next store) = Some (memory, Midway regs value)
after_load memory regs value (Begins next) = None
after_load memory regs value (Stops stop) = None

abbrev pub stop_number : Stop → ℕ
stop_number why.Divide = 0
stop_number why.Breakpoint = 1
stop_number why.Undefined = 2
stop_number why.Protection = 3
stop_number why.Halt = 4
stop_number why.Range = 5
stop_number why.CodeStore = 6
stop_number why.Fetch = 7
stop_number why.NotInSubset = 8

-- the stop that the outcome names is the instruction's
abbrev pub after_stop : List ℕ → Regs → Stop → OutsideResult → Change
after_stop memory regs stop (Stops reason) =
    if nat_eq (stop_number stop) (stop_number reason) then Some (memory, Halted regs stop) else None
after_stop memory regs stop (Goes next store) = None
after_stop memory regs stop (Begins next) = None

-- ---- transactions

abbrev pub after_begin : List ℕ → Regs → OutsideResult → Change
after_begin memory regs (Begins next) = Some (memory, Opened regs 1)
after_begin memory regs (Goes next store) = None
after_begin memory regs (Stops stop) = None

abbrev pub after_commit : List ℕ → Body → Change
after_commit memory body =
    if nat_eq body.depth 0 then Some (memory_after memory body.stores, Closed body.regs) else None

-- the registers after an abort with this status: those of the outermost XBEGIN, but for EAX and EIP
abbrev pub registers_after_abort : Setting → Regs → ℕ → Regs
registers_after_abort setting regs status =
    record regs { gpr = slice_set regs.gpr 0 status; eip = setting.fallback_of regs }

-- ---- every step

abbrev pub after_step_of : Setting → List ℕ → Core → Outcome → Change
after_step_of setting memory (Closed regs) Plain =
    if setting.takes_two_steps regs then None else after_plain memory (outside_at setting regs memory)
after_step_of setting memory (Closed regs) Loaded =
    if setting.takes_two_steps regs
    then after_load memory regs (value_at setting regs memory) (outside_at setting regs memory)
    else None
after_step_of setting memory (Closed regs) (Stopped stop) = after_stop memory regs stop (outside_at setting regs memory)
after_step_of setting memory (Closed regs) Begun = after_begin memory regs (outside_at setting regs memory)
after_step_of setting memory (Midway regs value) Plain = after_plain memory (setting.outside regs value)
after_step_of setting memory (Halted regs stop) Idle = Some (memory, Halted regs stop)
after_step_of setting memory (Opened regs steps) Inside = Some (memory, Opened regs (suc steps))
after_step_of setting memory (Opened regs steps) Committed =
    option_and_then (after_commit memory) (isolated_body setting regs memory (suc steps))
after_step_of setting memory (Opened regs steps) (Aborted status) =
    Some (memory, Closed (registers_after_abort setting regs status))
after_step_of setting memory (Opened regs steps) (AbortedBy by status) =
    Some (memory, Closed (registers_after_abort setting regs status))
after_step_of setting memory core outcome = None

-- ---- stores that are pending

abbrev pub store_of : OutsideResult → Option Store
store_of (Goes regs store) = store
store_of (Begins regs) = None
store_of (Stops stop) = None

-- What a step stores that need not be in memory at once: outside of transactions, but for an instruction that waits.
-- The store of a body is no such store (SDM volume 1, 16.2.1).
abbrev pub store_outside : Setting → List ℕ → Core → Outcome → Option Store
store_outside setting memory (Closed regs) Plain =
    if setting.waits regs then None else store_of (outside_at setting regs memory)
store_outside setting memory (Midway regs value) Plain = store_of (setting.outside regs value)
store_outside setting memory core outcome = None

-- the same, where a store may be pending at all
abbrev pub store_buffered : Setting → List ℕ → Core → Outcome → Option Store
store_buffered setting memory core outcome =
    if nat_eq setting.store_buffer 0 then None else store_outside setting memory core outcome

-- A step that no store may be pending behind: an instruction that waits; a stop, so that none is pending where a core
-- has stopped (SDM volume 3, 12.10); a commit, which has the ordering of a locked instruction (SDM volume 1, 16.3.6).
abbrev pub needs_none : Setting → Core → Outcome → Bool
needs_none setting (Closed regs) Plain = setting.waits regs
needs_none setting (Closed regs) (Stopped stop) = true
needs_none setting (Opened regs steps) Committed = true
needs_none setting core outcome = false

abbrev pub needs_room : Setting → Pending → Option Store → Bool
needs_room setting pending None = false
needs_room setting pending (Some store) = not (nat_lt (length pending) setting.store_buffer)

-- the step of a core that sees this memory waits, with these stores pending, until the oldest is in memory
abbrev pub must_wait : Setting → List ℕ → Pending → Core → Outcome → Bool
must_wait setting memory [] core outcome = false
must_wait setting memory (oldest ∷ younger) core outcome =
    needs_none setting core outcome
    || needs_room setting (oldest ∷ younger) (store_outside setting memory core outcome)

-- memory, what is pending and the core after a step; nothing where the rules do not allow the step
abbrev pub Next : Type 0
Next = List ℕ × (Pending × Core)

-- the oldest store reaches memory
abbrev pub after_drain : List ℕ → Pending → Core → Option Next
after_drain memory [] core = None
after_drain memory (oldest ∷ younger) core = Some (with_store memory oldest, (younger, core))

-- The step of a core changed so what it sees. What it stores is pending now, or is in memory, and then no other store
-- is pending; a step that stores nothing leaves both.
abbrev pub settled : List ℕ → Pending → Option Store → List ℕ × Core → Next
settled memory pending (Some store) change = (memory, (pending ++ store ∷ [], change.1))
settled memory [] None change = (change.0, ([], change.1))
settled memory (oldest ∷ younger) None change = (memory, (oldest ∷ younger, change.1))

-- a step that changes so what the core sees
abbrev pub after_step_by : (List ℕ → Core → Outcome → Change) → Setting → List ℕ → Pending → Core
    → Outcome → Option Next
after_step_by changes setting memory pending core Drained = after_drain memory pending core
after_step_by changes setting memory pending core outcome =
    let seen : List ℕ = seen_memory memory pending in
    if must_wait setting seen pending core outcome
    then None
    else
    option_map (settled memory pending (store_buffered setting seen core outcome)) (changes seen core outcome)

abbrev pub after_step : Setting → List ℕ → Pending → Core → Outcome → Option Next
after_step setting = after_step_by (after_step_of setting) setting

-- the state with another memory, and one core changed
abbrev pub state_with : State → ℕ → Next → State
state_with state number next = record {
  memory = next.0;
  count = state.count;
  cores = λ other. if nat_eq other number then next.1.1 else state.cores other;
  pending = λ other. if nat_eq other number then next.1.0 else state.pending other;
}

-- the state after a step of the core of this number, where the rules allow its outcome
abbrev pub step : Setting → State → ℕ → Outcome → Option State
step setting state number outcome =
    if nat_lt number state.count
    then option_map (state_with state number)
    (after_step setting state.memory (state.pending number) (state.cores number) outcome)
    else None

-- the state after a history: which core stepped, and with which outcome
abbrev pub run : Setting → State → List (ℕ × Outcome) → Option State
run setting state [] = Some state
run setting state (taken ∷ history) =
    option_and_then (λ next. run setting next history) (step setting state taken.0 taken.1)
