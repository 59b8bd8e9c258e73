-- Registers as gdb reads them: two hex digits a byte, in the order of the bytes in memory, and x for a byte that is not
-- there (gdb manual, appendix E.2, `g` and `p`); their order is that of the target description (appendix G.5.5, "i386
-- Features").
use Rattle.std.specs.Prelude.{ℕ, ◌*◌, ◌==◌, if◌then◌else◌, List, bit_or, nat_lt, replicate, slice_index}
use Rattle.std.specs.List.{flat_map, range_with_len}
use Rattle.std.specs.Int.{w32, to_le_bytes}
use Rattle.hex.specs.Hex.{encode_lower}
use Rattle.ia_regs.specs.declared.flags.Flags.{Flags}
use Rattle.tm_model.specs.declared.outcome.CoreState.{CoreState}
use Rattle.tm_model.specs.declared.outcome.CoreState.TheVariants as state
use Rattle.tm_hist.specs.Machine.{depth_of}
use Rattle.gdb_target.specs.declared.register.Register.{Register}
use Rattle.gdb_target.specs.declared.register.Register.TheVariants.{Value, Missing}
use Rattle.gdb_target.specs.declared.shown.CoreShown.{CoreShown}

abbrev pub register_text : Register → List ℕ
register_text (Value number) = encode_lower (to_le_bytes w32 number)
register_text (Missing bytes) = replicate (2 * bytes) 120

-- EFLAGS, whose bit 1 is always 1 (SDM volume 1, 3.4.3)
abbrev pub eflags : Flags → ℕ
eflags flags = bit_or flags.0 2

-- tm_state: 0 outside a transaction, 1 in one, 2 condemned, 3 stopped
abbrev pub state_number : CoreState → ℕ
state_number state.Running = 0
state_number state.Mid = 0
state_number (state.Open depth) = 1
state_number (state.Condemned depth) = 2
state_number (state.Stopped why) = 3

-- tm_state, tm_depth, tm_status, tm_reads, tm_writes and tm_step
abbrev pub tm_value : CoreShown → ℕ → ℕ
tm_value core number =
    if number == 32 then state_number core.state
    else if number == 33 then depth_of core.state
    else if number == 34 then core.status
    else if number == 35 then core.reads
    else if number == 36 then core.writes
    else core.step

-- EAX to EDI, EIP and EFLAGS; six segments, eight x87 registers of ten bytes and eight of four, which no core has; and
-- those of the transaction
abbrev pub register_of : CoreShown → ℕ → Register
register_of core number =
    if nat_lt number 8 then Value (slice_index core.regs.gpr number)
    else if number == 8 then Value core.regs.eip
    else if number == 9 then Value (eflags core.regs.flags)
    else if nat_lt number 16 then Missing 4
    else if nat_lt number 24 then Missing 10
    else if nat_lt number 32 then Missing 4
    else Value (tm_value core number)

-- all 38 registers
abbrev pub registers_text : CoreShown → List ℕ
registers_text core = flat_map (λ number. register_text (register_of core number)) (range_with_len 0 38)
