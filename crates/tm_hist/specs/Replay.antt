-- What a serial run is of a program and a history, with at most so many stores of a core pending.
use Rattle.std.specs.Prelude.{◌≡◌, ℕ, ◌<◌, List, length, map}
use Rattle.ia_image.specs.Program.{ProgramValue as Program}
use Rattle.tm_model.specs.declared.outcome.Outcome.{Outcome}
use Rattle.tm_model.specs.Setting.{program_setting}
use Rattle.tm_model.specs.State.{Core, Pending, opening_state}
use Rattle.tm_core.specs.Theorem.{pending_at, view_at}
use Rattle.tm_hist.specs.Board.{ShownBoard as Board, stop_shown}
use Rattle.tm_hist.specs.Queues.{EndsIn, Queued, queue_at, queues_of}
use Rattle.tm_hist.specs.Serial.{IsStuck, base_of, core_at, core_of, stop_of}
use Rattle.tm_hist.specs.declared.replay.Serial.{Serial}
use Rattle.tm_hist.specs.declared.replay.SerialFault.{SerialFault}
use Rattle.tm_hist.specs.declared.replay.SerialFault.TheVariants.{NotARun, NoMemory}

abbrev pub memory_of : Serial → List ℕ
memory_of serial = serial.memory.items

abbrev pub cores_of : Serial → List Core
cores_of serial = map core_of serial.cores.items

abbrev pub pending_of : Serial → List Pending
pending_of serial = queues_of serial.pending.items

abbrev pub lists_of : Serial → Queued
lists_of serial = record { memory = memory_of serial; queues = pending_of serial; cores = cores_of serial }

-- it holds what the run of the history ends with
abbrev pub IsReplay : Program → ℕ → List (ℕ × Outcome) → Serial → Type 0
IsReplay program stores history serial =
    EndsIn (program_setting program 0 0 stores) (opening_state program) history (lists_of serial)

-- the history is no run, from this pair on
abbrev pub IsRefused : Program → ℕ → List (ℕ × Outcome) → SerialFault → Type 0
IsRefused program stores history (NotARun index) =
    IsStuck (program_setting program 0 0 stores) (opening_state program) history index
IsRefused program stores history NoMemory = ⊥

-- it holds what the machine of a board shows: memory, and of each core the registers before its open transaction, its
-- stop, and its stores that are pending
pub record Replays (board : Board) (serial : Serial) : Type 0 where
  pub memory : memory_of serial ≡ board.machine.memory
  pub count : length (cores_of serial) ≡ length board.machine.views
  pub regs : (number : ℕ) → number < length board.machine.views →
      base_of (core_at (cores_of serial) number) ≡ (view_at board.machine number).base
  pub stops : (number : ℕ) → number < length board.machine.views →
      stop_of (core_at (cores_of serial) number) ≡ stop_shown (view_at board.machine number).mode
  pub pending : (number : ℕ) → number < length board.machine.views →
      queue_at (pending_of serial) number ≡ pending_at board.machine number
