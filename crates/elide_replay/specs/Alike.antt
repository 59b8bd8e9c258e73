-- When a machine and a serial run of its steps show the same.
use Rattle.std.specs.Prelude.{◌≡◌, ℕ, ◌<◌, length}
use Rattle.tm_core.specs.Theorem.{ShownMachine as Machine, pending_at, view_at}
use Rattle.tm_hist.specs.Board.{stop_shown}
use Rattle.tm_hist.specs.Queues.{queue_at}
use Rattle.tm_hist.specs.Replay.{cores_of, pending_of}
use Rattle.tm_hist.specs.Serial.{base_of, core_at, stop_of}
use Rattle.tm_hist.specs.declared.replay.Serial.{Serial}

-- the core of this number is in the serial run, too, with the registers that the machine has of it before its open
-- transaction
abbrev pub SameRegs : Machine → Serial → ℕ → Type 0
SameRegs machine serial number =
    (number < length (cores_of serial))
    × (base_of (core_at (cores_of serial) number) ≡ (view_at machine number).base)

-- and with its stop
abbrev pub SameStop : Machine → Serial → ℕ → Type 0
SameStop machine serial number =
    (number < length (cores_of serial))
    × (stop_of (core_at (cores_of serial) number) ≡ stop_shown (view_at machine number).mode)

-- and with its pending stores
abbrev pub SamePending : Machine → Serial → ℕ → Type 0
SamePending machine serial number =
    (number < length (cores_of serial))
    × (queue_at (pending_of serial) number ≡ pending_at machine number)

abbrev pub SameCore : Machine → Serial → ℕ → Type 0
SameCore machine serial number =
    SameRegs machine serial number × SameStop machine serial number × SamePending machine serial number

-- all of each core, and the serial run has no other
abbrev pub SameCores : Machine → Serial → Type 0
SameCores machine serial =
    (length (cores_of serial) ≡ length machine.views)
    × ((number : ℕ) → number < length machine.views → SameCore machine serial number)
