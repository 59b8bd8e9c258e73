-- The lines that are printed of a run: state lines, outcome lines and dumps of memory (docs/FORMATS.md, "Printed
-- lines").
use Rattle.std.specs.Prelude.{ℕ, ◌+◌, ◌*◌, ◌/◌, ◌%◌, ◌^◌, List, [], ◌∷◌, ◌++◌, codes, drop, take, length, slice_index}
use Rattle.std.specs.Prelude.{Option, Some, None, if◌then◌else◌, nat_lt}
use Rattle.std.specs.List.{flat_map, range_with_len}
use Rattle.std.specs.Int.{w16, to_be_bytes}
use Rattle.hex.specs.Hex.{encode_lower}
use Rattle.text_out.specs.Number.{eight_digits}
use Rattle.text_out.specs.TextLine.{line_end, number_text}
use Rattle.ia_regs.specs.Flags.{flags_of, has_carry, has_parity, has_adjust, has_zero, has_sign, has_overflow}
use Rattle.ia_regs.specs.declared.flags.Flags.{Flags}
use Rattle.tm_rule.specs.declared.kinds.Stop.TheVariants as stop
use Rattle.ia_regs.specs.declared.Regs.{Regs}
use Rattle.tm_rule.specs.declared.kinds.Stop.{Stop}
use Rattle.tm_model.specs.declared.outcome.CoreState.{CoreState}
use Rattle.tm_model.specs.declared.outcome.Outcome.{Outcome}
use Rattle.tm_model.specs.declared.outcome.CoreState.TheVariants as state
use Rattle.tm_model.specs.declared.outcome.Outcome.TheVariants as outcome
use Rattle.tm_model.specs.declared.outcome.Interference.{Interference}
use Rattle.tm_model.specs.declared.outcome.Interference.TheVariants as interference
use Rattle.ia_exec.specs.declared.done.Store.{Store}
use Rattle.ia_word.specs.declared.width.Width.{Width}
use Rattle.ia_word.specs.declared.width.Width.TheVariants.{B, D}
use Rattle.tm_core.specs.Theorem.{ShownMachine, pending_at}
use Rattle.tm_hist.specs.Machine.{core_count, shown_regs, shown_state}

-- the sum of CF 001h, PF 004h, AF 010h, ZF 040h, SF 080h and OF 800h, each where it is set
abbrev pub flag_sum : Flags → ℕ
flag_sum f = (flags_of (has_carry f) (has_parity f) (has_adjust f) (has_zero f) (has_sign f) (has_overflow f)).0

-- the flags in three hex digits
abbrev pub flags_text : Flags → List ℕ
flags_text f = drop 1 (encode_lower (to_be_bytes w16 (flag_sum f)))

abbrev pub stop_word : Stop → List ℕ
stop_word stop.Divide = codes "#DE"
stop_word stop.Breakpoint = codes "#BP"
stop_word stop.Undefined = codes "#UD"
stop_word stop.Protection = codes "#GP"
stop_word stop.Halt = codes "HLT"
stop_word stop.Range = codes "range"
stop_word stop.CodeStore = codes "code-store"
stop_word stop.Fetch = codes "fetch"
stop_word stop.NotInSubset = codes "not-in-subset"

abbrev pub state_word : CoreState → List ℕ
state_word state.Running = codes "run"
state_word state.Mid = codes "mid"
state_word (state.Open depth) = codes "tx" ++ number_text depth
state_word (state.Condemned depth) = codes "condemned"
state_word (state.Stopped why) = codes "stop:" ++ stop_word why

-- a register behind its name
unfoldable pub register_text : List ℕ → ℕ → List ℕ
register_text name value = name ++ eight_digits value

-- the general registers, the instruction pointer and the flags
unfoldable pub regs_text : Regs → List ℕ
regs_text regs =
    register_text (codes " eax=") (slice_index regs.gpr 0) ++ register_text (codes " ecx=") (slice_index regs.gpr 1)
    ++ register_text (codes " edx=") (slice_index regs.gpr 2) ++ register_text (codes " ebx=") (slice_index regs.gpr 3)
    ++ register_text (codes " esp=") (slice_index regs.gpr 4) ++ register_text (codes " ebp=") (slice_index regs.gpr 5)
    ++ register_text (codes " esi=") (slice_index regs.gpr 6) ++ register_text (codes " edi=") (slice_index regs.gpr 7)
    ++ register_text (codes " eip=") regs.eip ++ codes " flags=" ++ flags_text regs.flags

-- a state line
unfoldable pub core_line : ℕ → CoreState → Regs → List ℕ
core_line core state regs =
    codes "core " ++ number_text core ++ codes " " ++ state_word state ++ regs_text regs ++ line_end

-- the state line of a core of a machine, and those of all its cores
abbrev pub core_text : ShownMachine → ℕ → List ℕ
core_text machine core = core_line core (shown_state machine core) (shown_regs machine core)

abbrev pub cores_text : ShownMachine → List ℕ
cores_text machine = flat_map (core_text machine) (range_with_len 0 (core_count machine))

-- what is stored, in as many digits as it is wide
abbrev pub value_text : Width → ℕ → List ℕ
value_text B value = encode_lower (value % 256 ∷ [])
value_text D value = eight_digits value

-- the line of a store of a core that is pending: its address and its value
unfoldable pub pending_line : ℕ → Store → List ℕ
pending_line core store =
    codes "pending " ++ number_text core ++ codes " " ++ eight_digits store.addr ++ codes " "
    ++ value_text store.width store.value ++ line_end

-- the lines of the stores of a core of a machine that are pending, the oldest first, and those of all its cores; none
-- where there is no such core
abbrev pub pending_text : ShownMachine → ℕ → List ℕ
pending_text machine core =
    if nat_lt core (core_count machine) then flat_map (pending_line core) (pending_at machine core) else []

abbrev pub pendings_text : ShownMachine → List ℕ
pendings_text machine = flat_map (pending_text machine) (range_with_len 0 (core_count machine))

-- the state of a machine: the lines of its cores, and then those of what is pending
abbrev pub state_text : ShownMachine → List ℕ
state_text machine = cores_text machine ++ pendings_text machine

-- what aborted a transaction from outside of the program
abbrev pub interference_word : Interference → List ℕ
interference_word interference.Interrupt = codes "interrupt"
interference_word interference.Eviction = codes "eviction"
interference_word interference.Snoop = codes "snoop"

-- the status of an abort, as EAX holds it
abbrev pub status_of : Outcome → Option ℕ
status_of (outcome.Aborted status) = Some status
status_of (outcome.AbortedBy by status) = Some status
status_of outcome.Plain = None
status_of outcome.Loaded = None
status_of (outcome.Stopped why) = None
status_of outcome.Idle = None
status_of outcome.Begun = None
status_of outcome.Inside = None
status_of outcome.Committed = None
status_of outcome.Drained = None

abbrev pub outcome_words : Outcome → List ℕ
outcome_words outcome.Plain = codes "plain"
outcome_words outcome.Loaded = codes "loaded"
outcome_words (outcome.Stopped why) = codes "stopped " ++ stop_word why
outcome_words outcome.Idle = codes "idle"
outcome_words outcome.Begun = codes "begun"
outcome_words outcome.Inside = codes "inside"
outcome_words outcome.Committed = codes "committed"
outcome_words (outcome.Aborted status) = codes "aborted " ++ eight_digits status
outcome_words (outcome.AbortedBy by status) =
    codes "aborted " ++ eight_digits status ++ codes " " ++ interference_word by
outcome_words outcome.Drained = codes "drained"

-- the core, and what its step was
unfoldable pub step_text : ℕ → Outcome → List ℕ
step_text core outcome = number_text core ++ codes " " ++ outcome_words outcome

-- an outcome line
unfoldable pub outcome_line : ℕ → Outcome → List ℕ
outcome_line core outcome = number_text core ++ codes " " ++ outcome_words outcome ++ line_end

-- the line with this index of a dump: the address, and up to 16 bytes in hex
abbrev pub dump_line : List ℕ → ℕ → ℕ → List ℕ
dump_line bytes at i =
    eight_digits ((at + 16 * i) % 2 ^ 32) ++ codes " " ++ encode_lower (take 16 (drop (16 * i) bytes)) ++ line_end

-- the dump of bytes that stand at an address
abbrev pub dump_lines : List ℕ → ℕ → List ℕ
dump_lines bytes at = flat_map (dump_line bytes at) (range_with_len 0 ((length bytes + 15) / 16))
