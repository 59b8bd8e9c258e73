-- A run on one flat memory with store buffers, as it is replayed: beside memory and the cores there is of each core a
-- queue of the stores that it has made and that are not in memory yet, the oldest first. A step is that of tm_model
-- (Steps: `after_step`, and of a drain `after_drain`). No limit on lines is asked in a run: the settings here have 0.
use Rattle.std.specs.Prelude.{◌≡◌, ℕ, suc, ◌+◌, ◌<◌, ◌≤◌, ◌^◌, ◌==◌, List, [], ◌∷◌, ◌++◌, All, Vec, length, map, take}
use Rattle.std.specs.Prelude.{slice_index_or, slice_set, nat_lt, if◌then◌else◌, option_and_then, option_map, Option}
use Rattle.std.specs.Prelude.{Some, None, vec_capacity}
use Rattle.std.specs.List.{AllByRecursion}
use Rattle.ia_word.specs.Width.{bits_of, bytes_of}
use Rattle.tm_rule.specs.declared.kinds.Code.{Code}
use Rattle.tm_model.specs.Isolated.{isolated_body}
use Rattle.tm_model.specs.Setting.{Setting, outside_at, setting_of, value_at}
use Rattle.tm_model.specs.State.{Closed, Core, Halted, Midway, Opened, Pending, State, seen_memory}
use Rattle.tm_model.specs.Steps.{Change, Next, after_begin, after_commit, after_drain, after_load, after_plain}
use Rattle.tm_model.specs.Steps.{after_step, after_stop, registers_after_abort, run}
use Rattle.tm_model.specs.Types.{Begins, Goes, OutsideResult, Stops, Store}
use Rattle.tm_model.specs.declared.outcome.Outcome.{Outcome}
use Rattle.tm_model.specs.declared.outcome.Outcome.TheVariants.{Plain, Loaded, Stopped, Idle, Begun, Inside, Committed}
use Rattle.tm_model.specs.declared.outcome.Outcome.TheVariants.{Aborted, AbortedBy, Drained}
use Rattle.tm_hist.specs.Serial.{behind_step, core_at, core_of}
use Rattle.tm_hist.specs.declared.serial_core.SerialCore.{SerialCore}

-- the rules of this code on so many bytes of memory, with at most so many stores of a core pending
abbrev pub queue_setting : Code → ℕ → ℕ → Setting
queue_setting code size stores = setting_of code.bytes.now code.base size 0 0 stores

-- ---- a run over lists

-- memory, of each core its stores that are pending, and the cores
pub record Queued : Type 0 where
  pub memory : List ℕ
  pub queues : List Pending
  pub cores : List Core

-- of a core that has no queue none is pending
abbrev pub queue_at : List Pending → ℕ → Pending
queue_at queues number = slice_index_or queues number []

abbrev pub with_next : Queued → ℕ → Next → Queued
with_next now number next = record {
  memory = next.0;
  queues = slice_set now.queues number next.1.0;
  cores = slice_set now.cores number next.1.1;
}

abbrev pub queue_step : Setting → Queued → ℕ → Outcome → Option Queued
queue_step setting now number outcome =
    if nat_lt number (length now.cores)
    then option_map (with_next now number)
    (after_step setting now.memory (queue_at now.queues number) (core_at now.cores number) outcome)
    else None

abbrev pub queue_run : Setting → Queued → List (ℕ × Outcome) → Option Queued
queue_run setting now [] = Some now
queue_run setting now (taken ∷ history) =
    option_and_then (λ next. queue_run setting next history) (queue_step setting now taken.0 taken.1)

-- the pair at this index is the first at which the history is no run
pub record QueueStuck (setting : Setting) (start : Queued) (history : List (ℕ × Outcome)) (index : ℕ) : Type 0 where
  pub within : index < length history
  pub before : Queued
  pub ran : queue_run setting start (take index history) ≡ Some before
  pub stuck : queue_run setting start (take (index + 1) history) ≡ None

-- ---- a step, by cases

-- with what is pending of the core
abbrev pub with_queue : Pending → List ℕ × Core → Next
with_queue pending change = (change.0, (pending, change.1))

-- a step that waits until none is pending, and then is one of memory
abbrev pub with_none_pending : Pending → Change → Option Next
with_none_pending pending change = if length pending == 0 then option_map (with_queue pending) change else None

-- a step that stores nothing: what it changes of what the core sees is the core alone
abbrev pub storing_nothing : List ℕ → Pending → Change → Option Next
storing_nothing memory pending change = option_map (λ c. (memory, (pending, c.1))) change

-- a step whose store goes behind those that are pending, where there is room
abbrev pub storing : List ℕ → ℕ → Pending → OutsideResult → Option Next
storing memory stores pending (Goes regs None) = Some (memory, (pending, Closed regs))
storing memory stores pending (Goes regs (Some store)) =
    if nat_lt (length pending) stores then Some (memory, (pending ++ store ∷ [], Closed regs)) else None
storing memory stores pending (Begins regs) = None
storing memory stores pending (Stops stop) = None

-- The step of a core where stores may be pending, as the code goes about it. It is no rule of its own: it is the
-- `after_step` of the definitions (proofs/QueueSteps).
abbrev pub after_queued : Setting → List ℕ → Pending → Core → Outcome → Option Next
after_queued setting memory pending core Drained = after_drain memory pending core
after_queued setting memory pending (Closed regs) Plain =
    if setting.takes_two_steps regs
    then None
    else
    if setting.waits regs
    then with_none_pending pending (after_plain memory (outside_at setting regs memory))
    else storing memory setting.store_buffer pending (outside_at setting regs (seen_memory memory pending))
after_queued setting memory pending (Closed regs) Loaded =
    let seen : List ℕ = seen_memory memory pending in
    if setting.takes_two_steps regs
    then
    storing_nothing memory pending
    (after_load seen regs (value_at setting regs seen) (outside_at setting regs seen))
    else None
after_queued setting memory pending (Closed regs) (Stopped stop) =
    with_none_pending pending (after_stop memory regs stop (outside_at setting regs memory))
after_queued setting memory pending (Closed regs) Begun =
    let seen : List ℕ = seen_memory memory pending in
    storing_nothing memory pending (after_begin seen regs (outside_at setting regs seen))
after_queued setting memory pending (Midway regs value) Plain =
    storing memory setting.store_buffer pending (setting.outside regs value)
after_queued setting memory pending (Halted regs stop) Idle = Some (memory, (pending, Halted regs stop))
after_queued setting memory pending (Opened regs steps) Inside = Some (memory, (pending, Opened regs (suc steps)))
after_queued setting memory pending (Opened regs steps) Committed =
    with_none_pending pending
    (option_and_then (after_commit memory) (isolated_body setting regs memory (suc steps)))
after_queued setting memory pending (Opened regs steps) (Aborted status) =
    Some (memory, (pending, Closed (registers_after_abort setting regs status)))
after_queued setting memory pending (Opened regs steps) (AbortedBy by status) =
    Some (memory, (pending, Closed (registers_after_abort setting regs status)))
after_queued setting memory pending core outcome = None

-- ---- lists and states

-- lists that hold what a state has
pub record Holds (state : State) (now : Queued) : Type 0 where
  pub memory : now.memory ≡ state.memory
  pub count : length now.cores ≡ state.count
  pub each : (number : ℕ) → number < length now.cores → core_at now.cores number ≡ state.cores number
  pub pending : (number : ℕ) → number < length now.cores → queue_at now.queues number ≡ state.pending number

-- the run of these steps ends with what these lists hold
pub record EndsIn (setting : Setting) (state : State) (history : List (ℕ × Outcome)) (now : Queued) : Type 0 where
  pub end : State
  pub ran : run setting state history ≡ Some end
  pub holds : Holds end now

-- ---- what the code keeps

-- the stores of each queue
abbrev pub queues_of : {Z : Type 0} → List (Vec Store Z) → List Pending
queues_of queues = map (λ queue. queue.items) queues

-- memory, the queues and the cores
abbrev pub queued_in : {Z : Type 0} → List ℕ → List (Vec Store Z) → List SerialCore → Queued
queued_in memory queues cores =
    record { memory = memory; queues = queues_of queues; cores = map core_of cores }

-- what a core's step makes of memory, its queue and itself, where the rules allow the step
abbrev pub behind_queue : List ℕ → Pending → Option SerialCore → Option Next
behind_queue memory pending core = option_map (with_queue pending) (behind_step memory core)

-- a store that lies in a memory of this size
pub record IsStorable (size : ℕ) (store : Store) : Type 0 where
  pub place : store.addr + bytes_of store.width ≤ size
  pub value : store.value < 2 ^ bits_of store.width

-- a queue with room for so many stores, of stores that lie in a memory of this size
pub record IsQueue {Z : Type 0} (size stores : ℕ) (queue : Vec Store Z) : Type 0 where
  pub room : vec_capacity queue ≡ stores
  pub lie : All (IsStorable size) queue.items

-- so many queues, in which nothing is pending
pub record AreNew {Z : Type 0} (stores count : ℕ) (queues : List (Vec Store Z)) : Type 0 where
  pub number : length queues ≡ count
  pub none : (core : ℕ) → queue_at (queues_of queues) core ≡ []
  pub each : (size : ℕ) → AllByRecursion (IsQueue size stores) queues
