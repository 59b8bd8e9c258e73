-- What a step did (docs/FORMATS.md, "Traces"): where its instruction stands, what it is, and the numbers that it loaded
-- and stored.
use Rattle.std.specs.Prelude.{◌≡◌, ℕ, ◌+◌, ◌-◌, ◌*◌, ◌^◌, ◌&&◌, Bool, true, false, if◌then◌else◌, [], ◌∷◌, drop}
use Rattle.std.specs.Prelude.{length, nat_le, nat_lt, Option, Some, None, Result, Ok, Err}
use Rattle.ia_image.specs.Program.{ProgramValue as Program, code_of}
use Rattle.ia_insn.specs.Reading.{decoding_of}
use Rattle.ia_insn.specs.declared.fault.DecodeFault.{DecodeFault}
use Rattle.ia_insn.specs.declared.op.Insn.{Insn}
use Rattle.ia_word.specs.declared.width.Width.{Width}
use Rattle.ia_word.specs.declared.width.Width.TheVariants.{B, D}
use Rattle.tm_core.specs.Theorem.{ShownMachine as Machine, StandsFor, machine_setting, pending_at}
use Rattle.tm_core.specs.Theorem.{view_at}
use Rattle.tm_core.specs.Seen.{byte_seen}
use Rattle.tm_model.specs.Conflicts.{Doomed}
use Rattle.tm_model.specs.Explained.{IsReachTold}
use Rattle.tm_model.specs.State.{Pending, State, seen_by}
use Rattle.tm_model.specs.declared.explain.Reach.{Reach}
use Rattle.tm_model.specs.declared.outcome.Outcome.{Outcome}
use Rattle.tm_model.specs.declared.outcome.Outcome.TheVariants as outcome
use Rattle.tm_model.specs.Types.{Access}
use Rattle.tm_trace.specs.declared.deed.Before.{Before}
use Rattle.tm_trace.specs.declared.deed.Datum.{Datum}
use Rattle.tm_trace.specs.declared.deed.Deed.{Deed}

-- what is read at an address of a program, if it is an instruction
abbrev pub insn_read : Result (Insn × ℕ) DecodeFault → Option Insn
insn_read (Ok found) = Some found.0
insn_read (Err fault) = None

abbrev pub instruction_at : Program → ℕ → Option Insn
instruction_at program at =
    if nat_le program.base at then insn_read (decoding_of (drop (at - program.base) (code_of program))) else None

-- the number that a core sees at an address, lowest byte first: its stores that are pending lie over memory, and its
-- own transaction's bytes over these
abbrev pub value_seen : Machine → ℕ → Width → ℕ → ℕ
value_seen machine core B at = byte_seen machine core at
value_seen machine core D at =
    byte_seen machine core at + 256 * byte_seen machine core (at + 1) + 65536 * byte_seen machine core (at + 2)
    + 16777216 * byte_seen machine core (at + 3)

-- how far behind its first byte the last one of a number stands
abbrev pub last_of : Width → ℕ
last_of B = 0
last_of D = 3

abbrev pub is_in_memory : Machine → Access → Bool
is_in_memory machine access =
    nat_lt (access.addr + last_of access.width) (2 ^ 32)
    && nat_lt (access.addr + last_of access.width) (length machine.memory)

-- the number at these bytes, which lie in memory
abbrev pub datum_seen : Machine → ℕ → Option Access → Option Datum
datum_seen machine core None = None
datum_seen machine core (Some access) =
    if is_in_memory machine access
    then Some (record {
      address = access.addr;
      width = access.width;
      value = value_seen machine core access.width access.addr;
    })
    else None

-- the oldest of these stores, as the number that it puts in memory
abbrev pub oldest_store : Pending → Option Datum
oldest_store [] = None
oldest_store (oldest ∷ younger) =
    Some (record { address = oldest.addr; width = oldest.width; value = oldest.value })

-- what the machine says before a core's next step of the bytes that it reaches
abbrev pub IsReachSaid : Machine → ℕ → Reach → Type 0
IsReachSaid machine core told =
    (state : State) (doomed : Doomed) → StandsFor machine state doomed →
    IsReachTold (machine_setting machine) (seen_by state core) (state.cores core) (doomed core) told

-- what is told of a core's next step by the machine before it
pub record IsBefore (machine : Machine) (program : Program) (core : ℕ) (before : Before) : Type 0 where
  pub exists : nat_lt core (length machine.views) ≡ true
  pub eip : before.eip ≡ (view_at machine core).regs.eip
  pub insn : before.insn ≡ instruction_at program (view_at machine core).regs.eip
  pub reach : IsReachSaid machine core before.reach
  pub loaded : before.loaded ≡ datum_seen machine core before.reach.load
  pub oldest : before.oldest ≡ oldest_store (pending_at machine core)

-- a step that its instruction made, and that goes on; of others no number is told
abbrev pub tells_reach : Outcome → Bool
tells_reach outcome.Plain = true
tells_reach outcome.Loaded = true
tells_reach outcome.Inside = true
tells_reach outcome.Begun = false
tells_reach outcome.Committed = false
tells_reach outcome.Idle = false
tells_reach (outcome.Stopped stop) = false
tells_reach (outcome.Aborted status) = false
tells_reach (outcome.AbortedBy by status) = false
tells_reach outcome.Drained = false

-- a step in whose place the oldest store reached memory: its instruction did not run
abbrev pub is_drain : Outcome → Bool
is_drain outcome.Drained = true
is_drain _ = false

-- what the step of an outcome did, by the machine behind it: a drain, what the machine before it had pending
pub record IsDeed (before : Before) (machine : Machine) (core : ℕ) (outcome : Outcome) (deed : Deed) : Type 0 where
  pub eip : deed.eip ≡ before.eip
  pub insn : deed.insn ≡ (if is_drain outcome then None else before.insn)
  pub loaded : deed.loaded ≡ (if tells_reach outcome then before.loaded else None)
  pub stored : deed.stored
      ≡ (if is_drain outcome then before.oldest
      else if tells_reach outcome then datum_seen machine core before.reach.store else None)
