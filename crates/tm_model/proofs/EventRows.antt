-- Worked rows of schedules with aborts from outside of the program, computed as those of Rows: each pick is a core, or
-- a core under such an event.
use Rattle.std.specs.Prelude.{◌≡◌, ℕ, List, [], ◌∷◌, ◌++◌, Option, Some}
use Rattle.std.specs.Prelude.{None, replicate, slice_index, nat_eq, if◌then◌else◌, refl}
use Rattle.std.proofs.Common.{subst, sym}
use Rattle.ia_regs.specs.Flags.{has_carry, has_parity, has_adjust, has_zero, has_sign, has_overflow, flags_of}
use Rattle.ia_insn.specs.Reading.{signed_at, disp_at, base_at, mem_at, operand_at, head_at, modrm_at, op_at, insn_at}
use Rattle.ia_insn.specs.Reading.{decoding_of}
use Rattle.ia_insn.specs.Table.{alu_row, row_40, row_80, row_A0, row_C0, one_byte, two_byte, behind_f3}
use Rattle.ia_addr.specs.Address.{address_of}
use Rattle.ia_addr.specs.Load.{read_of, pair_of, op_load, load_of}
use Rattle.ia_alu.specs.Bits.{bit_value}
use Rattle.ia_alu.specs.Numbers.{signed_value, overflows}
use Rattle.ia_alu.specs.Ops.{logic_flags, alu_value, alu_flags, inc_dec_value, inc_dec_flags}
use Rattle.ia_alu.specs.Sums.{sum_flags, difference_flags}
use Rattle.ia_exec.specs.Arithmetic.{alu_of, bit_of, cmpxchg_of, exchange_of}
use Rattle.ia_exec.specs.Laws.{fallback_of}
use Rattle.ia_exec.specs.Table.{control_of, move_of, effect_of, unary_of, bare_of, done_of, finish_of}
use Rattle.ia_exec.specs.Words.{value_of, put_of}
use Rattle.tm_rule.specs.Rule.{fetched, load_at, outside_of, inside_of, fallback_of as rule_fallback_of}
use Rattle.tm_rule.specs.declared.kinds.Stop.TheVariants as why
use Rattle.tm_model.specs.Conflicts.{Doomed}
use Rattle.tm_model.specs.Conflicts.{doomed_after}
use Rattle.tm_model.specs.Setting.{Setting, setting_of}
use Rattle.tm_model.specs.State.{Closed, Core, Halted, Midway, Opened, Pending, State}
use Rattle.tm_model.specs.Steps.{step}
use Rattle.tm_model.specs.Types.{Aborted, AbortedBy, Begun, Committed, Event, Idle, Inside, Interference, Loaded}
use Rattle.tm_model.specs.Types.{Outcome, Pick, Plain, Regs, Stopped}
use Rattle.tm_model.specs.declared.outcome.Event.TheVariants as event
use Rattle.tm_model.specs.declared.outcome.Interference.TheVariants as by
use Rattle.tm_model.proofs.ByLists.{doomed_after_by_lists, owing, owing_by_lists, same_under, same_doomed}

-- ---- a schedule

-- outcomes, and the state after them
pub record Trace : Type 0 where
  pub outcomes : List Outcome
  pub memory : List ℕ
  pub regs : Regs  -- of core 0, before an open transaction

abbrev Owes : Type 0
Owes = Option Event → List ℕ → Pending → Core → Option ℕ → Outcome

abbrev Dooms : Type 0
Dooms = State → Doomed → ℕ → Outcome → Doomed

abbrev core : ℕ → Pick
core number = record { core = number; event = None }

abbrev under : Interference → ℕ → Pick
under by number = record { core = number; event = Some (event.Abort by) }

abbrev regs_of : Core → Regs
regs_of (Closed regs) = regs
regs_of (Midway regs value) = regs
regs_of (Halted regs stop) = regs
regs_of (Opened regs steps) = regs

abbrev ended : State → Trace
ended state = record { outcomes = []; memory = state.memory; regs = regs_of (state.cores 0) }

-- the owed steps of a schedule, until one is not allowed
abbrev trace : Owes → Dooms → Setting → State → Doomed → List Pick → Trace
trace owes dooms setting state doomed [] = ended state
trace owes dooms setting state doomed (pick ∷ picks) =
    let outcome : Outcome =
    owes pick.event state.memory (state.pending pick.core) (state.cores pick.core) (doomed pick.core) in
    elim (step setting state pick.core outcome) [
      | None ↦ record (ended state) { memory = [] }
      | Some next ↦
          let rest : Trace = trace owes dooms setting next (dooms state doomed pick.core outcome) picks in
          record rest { outcomes = outcome ∷ rest.outcomes }
    ]

abbrev registers : ℕ → ℕ → Regs
registers number entry = record {
  gpr = number ∷ 2 ∷ 3 ∷ 4 ∷ 5 ∷ 6 ∷ 7 ∷ 8 ∷ [];
  flags = record { 0 = 0 };
  eip = entry;
}

-- two cores over empty memory of 1040h bytes; core 0 begins at 100h, core 1 at its entry
abbrev start : ℕ → State
start entry = record {
  memory = replicate 0x1040 0;
  count = 2;
  cores = λ number. Closed (registers number (if nat_eq number 0 then 0x100 else entry));
  pending = λ _. [];
}

-- these outcomes, then this byte at 1000h, and of core 0 this EAX and EIP, other registers and flags as at the start
abbrev EndsWith : Trace → List Outcome → ℕ → ℕ → ℕ → Type 0
EndsWith end outcomes byte eax eip =
    (end.outcomes ≡ outcomes) × (slice_index end.memory 0x1000 ≡ byte)
    × (end.regs.gpr ≡ eax ∷ 2 ∷ 3 ∷ 4 ∷ 5 ∷ 6 ∷ 7 ∷ 8 ∷ []) × (end.regs.eip ≡ eip)
    × (end.regs.flags ≡ record { 0 = 0 })

abbrev setting_on : List ℕ → Setting
setting_on code = setting_of code 0x100 0x1040 512 512 0

-- by the definitions, and by lists
abbrev trace_of : List ℕ → ℕ → List Pick → Trace
trace_of code entry schedule =
    trace (owing (setting_on code)) (doomed_after (setting_on code)) (setting_on code)
    (start entry) (λ _. None) schedule

abbrev trace_by_lists : List ℕ → ℕ → List Pick → Trace
trace_by_lists code entry schedule =
    trace (owing_by_lists (setting_on code)) (doomed_after_by_lists (setting_on code))
    (setting_on code) (start entry) (λ _. None) schedule

-- this code at 100h ends so under this schedule
pub record RowIs (code : List ℕ) (entry : ℕ) (schedule : List Pick) (outcomes : List Outcome) (byte eax eip : ℕ)
    : Type 0 where
  pub holds : EndsWith (trace_of code entry schedule) outcomes byte eax eip

as_computed : (code : List ℕ) (entry : ℕ) (schedule : List Pick) (outcomes : List Outcome) (byte eax eip : ℕ) →
    EndsWith (trace_by_lists code entry schedule) outcomes byte eax eip →
    RowIs code entry schedule outcomes byte eax eip
as_computed code entry schedule outcomes byte eax eip ends = record {
  holds = subst (λ (end : Trace). EndsWith end outcomes byte eax eip) (sym same) ends;
}
  where
    same : trace_of code entry schedule ≡ trace_by_lists code entry schedule
    same = λ i.
        trace (same_under (setting_on code) i) (same_doomed (setting_on code) i) (setting_on code) (start entry)
        (λ _. None) schedule

-- xbegin 115h; mov eax, [1000h]; inc eax; mov [1000h], eax; xend; hlt; hlt
abbrev p : List ℕ
p =
    0xC7 ∷ 0xF8 ∷ 0x0F ∷ 0x00 ∷ 0x00 ∷ 0x00 ∷ 0xA1 ∷ 0x00 ∷ 0x10 ∷ 0x00 ∷ 0x00 ∷
    0x40 ∷ 0xA3 ∷ 0x00 ∷ 0x10 ∷ 0x00 ∷ 0x00 ∷ 0x0F ∷ 0x01 ∷ 0xD5 ∷ 0xF4 ∷ 0xF4 ∷ []

-- the body is whole, and the XEND under an interrupt aborts it: memory is as it was, EAX is 0, EIP the fallback
an_interrupt_at_xend :
    RowIs p 0x100
    (core 0 ∷ core 0 ∷ core 0 ∷ core 0 ∷ under by.Interrupt 0 ∷ [])
    (Begun ∷ Inside ∷ Inside ∷ Inside ∷ (AbortedBy by.Interrupt 0) ∷ []) 0 0 0x115
unfolding has_carry has_parity has_adjust has_zero has_sign has_overflow flags_of signed_at disp_at base_at
    mem_at operand_at head_at modrm_at op_at insn_at decoding_of alu_row row_40 row_80 row_A0 row_C0 one_byte
    two_byte behind_f3 address_of read_of pair_of op_load load_of bit_value signed_value overflows logic_flags
    alu_value alu_flags inc_dec_value inc_dec_flags sum_flags difference_flags alu_of bit_of cmpxchg_of fallback_of
    exchange_of control_of move_of effect_of unary_of bare_of done_of finish_of value_of put_of fetched load_at
    outside_of inside_of rule_fallback_of
an_interrupt_at_xend = as_computed _ _ _ _ _ _ _ (refl, refl, refl, refl, refl)

-- an interrupt directly behind XBEGIN
behind_xbegin :
    RowIs p 0x100
    (core 0 ∷ under by.Interrupt 0 ∷ [])
    (Begun ∷ (AbortedBy by.Interrupt 0) ∷ []) 0 0 0x115
unfolding has_carry has_parity has_adjust has_zero has_sign has_overflow flags_of signed_at disp_at base_at
    mem_at operand_at head_at modrm_at op_at insn_at decoding_of alu_row row_40 row_80 row_A0 row_C0 one_byte
    two_byte behind_f3 address_of read_of pair_of op_load load_of bit_value signed_value overflows logic_flags
    alu_value alu_flags inc_dec_value inc_dec_flags sum_flags difference_flags alu_of bit_of cmpxchg_of fallback_of
    exchange_of control_of move_of effect_of unary_of bare_of done_of finish_of value_of put_of fetched load_at
    outside_of inside_of rule_fallback_of
behind_xbegin = as_computed _ _ _ _ _ _ _ (refl, refl, refl, refl, refl)

-- each step under an interrupt: the XBEGIN is made, its transaction aborts, and the fallback runs
always_aborts :
    RowIs p 0x100
    (under by.Interrupt 0 ∷ under by.Interrupt 0 ∷ under by.Interrupt 0 ∷ [])
    (Begun ∷ (AbortedBy by.Interrupt 0) ∷ (Stopped why.Halt) ∷ []) 0 0 0x115
unfolding has_carry has_parity has_adjust has_zero has_sign has_overflow flags_of signed_at disp_at base_at
    mem_at operand_at head_at modrm_at op_at insn_at decoding_of alu_row row_40 row_80 row_A0 row_C0 one_byte
    two_byte behind_f3 address_of read_of pair_of op_load load_of bit_value signed_value overflows logic_flags
    alu_value alu_flags inc_dec_value inc_dec_flags sum_flags difference_flags alu_of bit_of cmpxchg_of fallback_of
    exchange_of control_of move_of effect_of unary_of bare_of done_of finish_of value_of put_of fetched load_at
    outside_of inside_of rule_fallback_of
always_aborts = as_computed _ _ _ _ _ _ _ (refl, refl, refl, refl, refl)

-- the eviction of a line: the status of the capacity
a_line_is_evicted :
    RowIs p 0x100
    (core 0 ∷ core 0 ∷ core 0 ∷ under by.Eviction 0 ∷ [])
    (Begun ∷ Inside ∷ Inside ∷ (AbortedBy by.Eviction 8) ∷ []) 0 8 0x115
unfolding has_carry has_parity has_adjust has_zero has_sign has_overflow flags_of signed_at disp_at base_at
    mem_at operand_at head_at modrm_at op_at insn_at decoding_of alu_row row_40 row_80 row_A0 row_C0 one_byte
    two_byte behind_f3 address_of read_of pair_of op_load load_of bit_value signed_value overflows logic_flags
    alu_value alu_flags inc_dec_value inc_dec_flags sum_flags difference_flags alu_of bit_of cmpxchg_of fallback_of
    exchange_of control_of move_of effect_of unary_of bare_of done_of finish_of value_of put_of fetched load_at
    outside_of inside_of rule_fallback_of
a_line_is_evicted = as_computed _ _ _ _ _ _ _ (refl, refl, refl, refl, refl)

-- an access by no core: the status of a conflict
an_access_from_outside :
    RowIs p 0x100
    (core 0 ∷ core 0 ∷ under by.Snoop 0 ∷ [])
    (Begun ∷ Inside ∷ (AbortedBy by.Snoop 6) ∷ []) 0 6 0x115
unfolding has_carry has_parity has_adjust has_zero has_sign has_overflow flags_of signed_at disp_at base_at
    mem_at operand_at head_at modrm_at op_at insn_at decoding_of alu_row row_40 row_80 row_A0 row_C0 one_byte
    two_byte behind_f3 address_of read_of pair_of op_load load_of bit_value signed_value overflows logic_flags
    alu_value alu_flags inc_dec_value inc_dec_flags sum_flags difference_flags alu_of bit_of cmpxchg_of fallback_of
    exchange_of control_of move_of effect_of unary_of bare_of done_of finish_of value_of put_of fetched load_at
    outside_of inside_of rule_fallback_of
an_access_from_outside = as_computed _ _ _ _ _ _ _ (refl, refl, refl, refl, refl)

-- xbegin 106h, xbegin 10ch: 20h is added, and the outermost fallback counts
nested_eviction :
    RowIs (0xC7 ∷ 0xF8 ∷ 0x00 ∷ 0x00 ∷ 0x00 ∷ 0x00 ∷ 0xC7 ∷ 0xF8 ∷ 0x00 ∷ 0x00 ∷ 0x00 ∷ 0x00 ∷ []) 0x100
    (core 0 ∷ core 0 ∷ under by.Eviction 0 ∷ [])
    (Begun ∷ Inside ∷ (AbortedBy by.Eviction 0x28) ∷ []) 0 0x28 0x106
unfolding has_carry has_parity has_adjust has_zero has_sign has_overflow flags_of signed_at disp_at base_at
    mem_at operand_at head_at modrm_at op_at insn_at decoding_of alu_row row_40 row_80 row_A0 row_C0 one_byte
    two_byte behind_f3 address_of read_of pair_of op_load load_of bit_value signed_value overflows logic_flags
    alu_value alu_flags inc_dec_value inc_dec_flags sum_flags difference_flags alu_of bit_of cmpxchg_of fallback_of
    exchange_of control_of move_of effect_of unary_of bare_of done_of finish_of value_of put_of fetched load_at
    outside_of inside_of rule_fallback_of
nested_eviction = as_computed _ _ _ _ _ _ _ (refl, refl, refl, refl, refl)

-- mov byte [1000h], 7 by core 1 hits core 0: its abort is by the conflict, whatever event comes
a_doomed_core_aborts_by_its_conflict :
    RowIs (p ++ 0xC6 ∷ 0x05 ∷ 0x00 ∷ 0x10 ∷ 0x00 ∷ 0x00 ∷ 0x07 ∷ []) 0x116
    (core 0 ∷ core 0 ∷ core 1 ∷ under by.Interrupt 0 ∷ [])
    (Begun ∷ Inside ∷ Plain ∷ (Aborted 6) ∷ []) 7 6 0x115
unfolding has_carry has_parity has_adjust has_zero has_sign has_overflow flags_of signed_at disp_at base_at
    mem_at operand_at head_at modrm_at op_at insn_at decoding_of alu_row row_40 row_80 row_A0 row_C0 one_byte
    two_byte behind_f3 address_of read_of pair_of op_load load_of bit_value signed_value overflows logic_flags
    alu_value alu_flags inc_dec_value inc_dec_flags sum_flags difference_flags alu_of bit_of cmpxchg_of fallback_of
    exchange_of control_of move_of effect_of unary_of bare_of done_of finish_of value_of put_of fetched load_at
    outside_of inside_of rule_fallback_of
a_doomed_core_aborts_by_its_conflict = as_computed _ _ _ _ _ _ _ (refl, refl, refl, refl, refl)

-- xbegin 106h, xabort 0abh: the event comes before the instruction
an_event_wins_over_xabort :
    RowIs (0xC7 ∷ 0xF8 ∷ 0x00 ∷ 0x00 ∷ 0x00 ∷ 0x00 ∷ 0xC6 ∷ 0xF8 ∷ 0xAB ∷ []) 0x100
    (core 0 ∷ under by.Interrupt 0 ∷ [])
    (Begun ∷ (AbortedBy by.Interrupt 0) ∷ []) 0 0 0x106
unfolding has_carry has_parity has_adjust has_zero has_sign has_overflow flags_of signed_at disp_at base_at
    mem_at operand_at head_at modrm_at op_at insn_at decoding_of alu_row row_40 row_80 row_A0 row_C0 one_byte
    two_byte behind_f3 address_of read_of pair_of op_load load_of bit_value signed_value overflows logic_flags
    alu_value alu_flags inc_dec_value inc_dec_flags sum_flags difference_flags alu_of bit_of cmpxchg_of fallback_of
    exchange_of control_of move_of effect_of unary_of bare_of done_of finish_of value_of put_of fetched load_at
    outside_of inside_of rule_fallback_of
an_event_wins_over_xabort = as_computed _ _ _ _ _ _ _ (refl, refl, refl, refl, refl)

-- xbegin 106h, hlt under an eviction: 8, and not 0
an_event_wins_over_a_stop :
    RowIs (0xC7 ∷ 0xF8 ∷ 0x00 ∷ 0x00 ∷ 0x00 ∷ 0x00 ∷ 0xF4 ∷ []) 0x100
    (core 0 ∷ under by.Eviction 0 ∷ [])
    (Begun ∷ (AbortedBy by.Eviction 8) ∷ []) 0 8 0x106
unfolding has_carry has_parity has_adjust has_zero has_sign has_overflow flags_of signed_at disp_at base_at
    mem_at operand_at head_at modrm_at op_at insn_at decoding_of alu_row row_40 row_80 row_A0 row_C0 one_byte
    two_byte behind_f3 address_of read_of pair_of op_load load_of bit_value signed_value overflows logic_flags
    alu_value alu_flags inc_dec_value inc_dec_flags sum_flags difference_flags alu_of bit_of cmpxchg_of fallback_of
    exchange_of control_of move_of effect_of unary_of bare_of done_of finish_of value_of put_of fetched load_at
    outside_of inside_of rule_fallback_of
an_event_wins_over_a_stop = as_computed _ _ _ _ _ _ _ (refl, refl, refl, refl, refl)

-- both cores run the transaction: core 0 is interrupted, and core 1 commits
an_event_hits_nobody :
    RowIs p 0x100
    (core 0 ∷ core 0 ∷ core 1 ∷ core 1 ∷ under by.Interrupt 0 ∷ core 1 ∷ core 1 ∷ core 1 ∷ [])
    (Begun ∷ Inside ∷ Begun ∷ Inside ∷ (AbortedBy by.Interrupt 0) ∷ Inside ∷ Inside ∷ Committed ∷ []) 1 0 0x115
unfolding has_carry has_parity has_adjust has_zero has_sign has_overflow flags_of signed_at disp_at base_at
    mem_at operand_at head_at modrm_at op_at insn_at decoding_of alu_row row_40 row_80 row_A0 row_C0 one_byte
    two_byte behind_f3 address_of read_of pair_of op_load load_of bit_value signed_value overflows logic_flags
    alu_value alu_flags inc_dec_value inc_dec_flags sum_flags difference_flags alu_of bit_of cmpxchg_of fallback_of
    exchange_of control_of move_of effect_of unary_of bare_of done_of finish_of value_of put_of fetched load_at
    outside_of inside_of rule_fallback_of
an_event_hits_nobody = as_computed _ _ _ _ _ _ _ (refl, refl, refl, refl, refl)

-- core 0 has stored and is interrupted; the load of core 1 then hits nobody, and core 0 halts
an_aborted_core_is_hit_by_nobody :
    RowIs (p ++ 0xA1 ∷ 0x00 ∷ 0x10 ∷ 0x00 ∷ 0x00 ∷ []) 0x116
    (core 0 ∷ core 0 ∷ core 0 ∷ core 0 ∷ under by.Interrupt 0 ∷ core 1 ∷ core 0 ∷ [])
    (Begun ∷ Inside ∷ Inside ∷ Inside ∷ (AbortedBy by.Interrupt 0) ∷ Plain ∷ (Stopped why.Halt) ∷ []) 0 0 0x115
unfolding has_carry has_parity has_adjust has_zero has_sign has_overflow flags_of signed_at disp_at base_at
    mem_at operand_at head_at modrm_at op_at insn_at decoding_of alu_row row_40 row_80 row_A0 row_C0 one_byte
    two_byte behind_f3 address_of read_of pair_of op_load load_of bit_value signed_value overflows logic_flags
    alu_value alu_flags inc_dec_value inc_dec_flags sum_flags difference_flags alu_of bit_of cmpxchg_of fallback_of
    exchange_of control_of move_of effect_of unary_of bare_of done_of finish_of value_of put_of fetched load_at
    outside_of inside_of rule_fallback_of
an_aborted_core_is_hit_by_nobody = as_computed _ _ _ _ _ _ _ (refl, refl, refl, refl, refl)

-- core 1 has stored; the load of core 0 under an interrupt is not made and hits nobody, so core 1 commits
an_interrupted_load_hits_nobody :
    RowIs p 0x100
    (core 0 ∷ core 1 ∷ core 1 ∷ core 1 ∷ core 1 ∷ under by.Interrupt 0 ∷ core 1 ∷ [])
    (Begun ∷ Begun ∷ Inside ∷ Inside ∷ Inside ∷ (AbortedBy by.Interrupt 0) ∷ Committed ∷ []) 1 0 0x115
unfolding has_carry has_parity has_adjust has_zero has_sign has_overflow flags_of signed_at disp_at base_at
    mem_at operand_at head_at modrm_at op_at insn_at decoding_of alu_row row_40 row_80 row_A0 row_C0 one_byte
    two_byte behind_f3 address_of read_of pair_of op_load load_of bit_value signed_value overflows logic_flags
    alu_value alu_flags inc_dec_value inc_dec_flags sum_flags difference_flags alu_of bit_of cmpxchg_of fallback_of
    exchange_of control_of move_of effect_of unary_of bare_of done_of finish_of value_of put_of fetched load_at
    outside_of inside_of rule_fallback_of
an_interrupted_load_hits_nobody = as_computed _ _ _ _ _ _ _ (refl, refl, refl, refl, refl)

-- not dword [1000h]: outside of transactions an event changes nothing, also between the two steps of an instruction
between_two_steps_nothing_comes :
    RowIs (0xF7 ∷ 0x15 ∷ 0x00 ∷ 0x10 ∷ 0x00 ∷ 0x00 ∷ []) 0x100
    (under by.Interrupt 0 ∷ under by.Interrupt 0 ∷ [])
    (Loaded ∷ Plain ∷ []) 0xFF 0 0x106
unfolding has_carry has_parity has_adjust has_zero has_sign has_overflow flags_of signed_at disp_at base_at
    mem_at operand_at head_at modrm_at op_at insn_at decoding_of alu_row row_40 row_80 row_A0 row_C0 one_byte
    two_byte behind_f3 address_of read_of pair_of op_load load_of bit_value signed_value overflows logic_flags
    alu_value alu_flags inc_dec_value inc_dec_flags sum_flags difference_flags alu_of bit_of cmpxchg_of fallback_of
    exchange_of control_of move_of effect_of unary_of bare_of done_of finish_of value_of put_of fetched load_at
    outside_of inside_of rule_fallback_of
between_two_steps_nothing_comes = as_computed _ _ _ _ _ _ _ (refl, refl, refl, refl, refl)

-- hlt
a_stopped_core_is_idle :
    RowIs (0xF4 ∷ []) 0x100
    (under by.Interrupt 0 ∷ under by.Interrupt 0 ∷ [])
    ((Stopped why.Halt) ∷ Idle ∷ []) 0 0 0x100
unfolding has_carry has_parity has_adjust has_zero has_sign has_overflow flags_of signed_at disp_at base_at
    mem_at operand_at head_at modrm_at op_at insn_at decoding_of alu_row row_40 row_80 row_A0 row_C0 one_byte
    two_byte behind_f3 address_of read_of pair_of op_load load_of bit_value signed_value overflows logic_flags
    alu_value alu_flags inc_dec_value inc_dec_flags sum_flags difference_flags alu_of bit_of cmpxchg_of fallback_of
    exchange_of control_of move_of effect_of unary_of bare_of done_of finish_of value_of put_of fetched load_at
    outside_of inside_of rule_fallback_of
a_stopped_core_is_idle = as_computed _ _ _ _ _ _ _ (refl, refl, refl, refl, refl)
