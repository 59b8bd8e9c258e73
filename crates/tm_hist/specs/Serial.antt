-- A run on one flat memory, without store buffers, as it is replayed. No limit on lines is asked in a run: the settings
-- here have 0.
use Rattle.std.specs.Prelude.{◌≡◌, ℕ, ◌+◌, ◌-◌, ◌<◌, List, [], ◌∷◌, length, take, slice_index_or, slice_set, nat_lt}
use Rattle.std.specs.Prelude.{if◌then◌else◌, option_and_then, option_map, Option, Some, None}
use Rattle.ia_image.specs.Program.{ProgramValue as Program, start_regs}
use Rattle.ia_regs.specs.declared.Regs.{Regs}
use Rattle.tm_rule.specs.declared.kinds.Code.{Code}
use Rattle.tm_rule.specs.declared.kinds.Stop.{Stop}
use Rattle.tm_rule.specs.declared.kinds.OutsideResult.{OutsideResult}
use Rattle.tm_rule.specs.declared.kinds.OutsideResult.TheVariants.{Goes, Begins, Stops}
use Rattle.tm_rule.specs.declared.kinds.InsideResult.{InsideResult}
use Rattle.tm_rule.specs.declared.kinds.InsideResult.TheVariants.{GoesOn, Nests, Ends, Fails}
use Rattle.tm_model.specs.declared.outcome.Outcome.{Outcome}
use Rattle.tm_model.specs.Access.{memory_after, stores_of}
use Rattle.tm_model.specs.Setting.{Setting, setting_of}
use Rattle.tm_model.specs.State.{Closed, Core, Halted, Midway, Opened, State}
use Rattle.tm_model.specs.Steps.{after_step_of, run}
use Rattle.tm_hist.specs.declared.flat.FlatBody.{FlatBody}
use Rattle.tm_hist.specs.declared.replay.SerialFault.{SerialFault}
use Rattle.tm_hist.specs.declared.replay.SerialFault.TheVariants.{NotARun, NoMemory}
use Rattle.tm_hist.specs.declared.serial_core.SerialCore.{SerialCore}
use Rattle.tm_hist.specs.declared.serial_core.SerialCore.TheVariants as serial_core

-- the rules of this code on so many bytes of memory
abbrev pub flat_setting : Code → ℕ → Setting
flat_setting code size = setting_of code.bytes.now code.base size 0 0 0

-- a body after its XBEGIN
abbrev pub flat_body_begun : OutsideResult → Option FlatBody
flat_body_begun (Begins regs) = Some (record { regs = regs; depth = 1 })
flat_body_begun (Goes regs store) = None
flat_body_begun (Stops stop) = None

-- a body and its memory after one more instruction
abbrev pub flat_body_after : ℕ → InsideResult → Option FlatBody
flat_body_after depth (GoesOn regs store) = Some (record { regs = regs; depth = depth })
flat_body_after depth (Nests regs) = Some (record { regs = regs; depth = depth + 1 })
flat_body_after depth (Ends regs) = Some (record { regs = regs; depth = depth - 1 })
flat_body_after depth (Fails cause) = None

abbrev pub memory_after_instruction : List ℕ → InsideResult → List ℕ
memory_after_instruction memory (GoesOn regs store) = memory_after memory (stores_of store)
memory_after_instruction memory (Nests regs) = memory
memory_after_instruction memory (Ends regs) = memory
memory_after_instruction memory (Fails cause) = memory

-- a core as the definitions see it
abbrev pub core_of : SerialCore → Core
core_of (serial_core.Closed regs) = Closed regs
core_of (serial_core.Midway regs value) = Midway regs value
core_of (serial_core.Halted regs stop) = Halted regs stop
core_of (serial_core.Opened regs steps) = Opened regs steps

-- memory and the core behind its step, where the rules allow the step
abbrev pub behind_step : List ℕ → Option SerialCore → Option (List ℕ × Core)
behind_step memory core = option_map (λ c. (memory, core_of c)) core

-- how many steps a core has made since its XBEGIN
abbrev pub steps_of : SerialCore → ℕ
steps_of (serial_core.Closed regs) = 0
steps_of (serial_core.Midway regs value) = 0
steps_of (serial_core.Halted regs stop) = 0
steps_of (serial_core.Opened regs steps) = steps

-- a core before its first step
abbrev pub first_core : Program → ℕ → SerialCore
first_core program number = serial_core.Closed (start_regs program number)

-- the registers of a core, those before XBEGIN where it is open; and why it stopped
abbrev pub base_of : Core → Regs
base_of (Closed regs) = regs
base_of (Midway regs value) = regs
base_of (Halted regs stop) = regs
base_of (Opened regs steps) = regs

abbrev pub stop_of : Core → Option Stop
stop_of (Closed regs) = None
stop_of (Midway regs value) = None
stop_of (Halted regs stop) = Some stop
stop_of (Opened regs steps) = None

-- ---- a run over lists

abbrev pub core_at : List Core → ℕ → Core
core_at cores number =
    slice_index_or cores number (Closed (record { gpr = []; flags = record { 0 = 0 }; eip = 0 }))

-- memory and the cores after a step
abbrev pub with_core : List Core → ℕ → Option (List ℕ × Core) → Option (List ℕ × List Core)
with_core cores number None = None
with_core cores number (Some change) = Some (change.0, slice_set cores number change.1)

abbrev pub list_step : Setting → List ℕ → List Core → ℕ → Outcome → Option (List ℕ × List Core)
list_step setting memory cores number outcome =
    if nat_lt number (length cores)
    then with_core cores number (after_step_of setting memory (core_at cores number) outcome)
    else None

abbrev pub list_run : Setting → List ℕ → List Core → List (ℕ × Outcome) → Option (List ℕ × List Core)
list_run setting memory cores [] = Some (memory, cores)
list_run setting memory cores (taken ∷ history) =
    option_and_then (λ now. list_run setting now.0 now.1 history) (list_step setting memory cores taken.0 taken.1)

-- the pair at this index is the first at which the history is no run
pub record IsStuck (setting : Setting) (state : State) (history : List (ℕ × Outcome)) (index : ℕ) : Type 0 where
  pub within : index < length history
  pub before : State
  pub ran : run setting state (take index history) ≡ Some before
  pub stuck : run setting state (take (index + 1) history) ≡ None

-- the same over lists
pub record ListStuck (setting : Setting) (memory : List ℕ) (cores : List Core) (history : List (ℕ × Outcome))
    (index : ℕ) : Type 0 where
  pub within : index < length history
  pub before : List ℕ × List Core
  pub ran : list_run setting memory cores (take index history) ≡ Some before
  pub stuck : list_run setting memory cores (take (index + 1) history) ≡ None

abbrev pub serial_code : SerialFault → ℕ
serial_code (NotARun index) = 53
serial_code NoMemory = 54

-- lists that hold the memory and the cores of a state, in which no store is pending
pub record Agrees (state : State) (bytes : List ℕ) (cores : List Core) : Type 0 where
  pub memory : bytes ≡ state.memory
  pub count : length cores ≡ state.count
  pub each : (number : ℕ) → number < length cores → core_at cores number ≡ state.cores number
  pub none : (number : ℕ) → number < length cores → [] ≡ state.pending number

-- the run of these steps ends with this memory and these cores
pub record EndsWith (setting : Setting) (state : State) (history : List (ℕ × Outcome)) (memory : List ℕ)
    (cores : List Core) : Type 0 where
  pub end : State
  pub ran : run setting state history ≡ Some end
  pub agrees : Agrees end memory cores
