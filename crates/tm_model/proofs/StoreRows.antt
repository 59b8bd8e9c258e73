-- Worked rows with stores pending, computed from the bytes of their instructions as those of Rows: each pick is a core,
-- a drain of a core, or an abort of one from outside.
use Rattle.std.specs.Prelude.{◌≡◌, ℕ, List, [], ◌∷◌, Option, Some}
use Rattle.std.specs.Prelude.{None, replicate, slice_index, nat_eq, if◌then◌else◌, refl}
use Rattle.std.proofs.Common.{subst, sym}
use Rattle.ia_regs.specs.Flags.{has_carry, has_parity, has_adjust, has_zero, has_sign, has_overflow, flags_of}
use Rattle.ia_insn.specs.Reading.{signed_at, disp_at, base_at, mem_at, operand_at, head_at, modrm_at, op_at, insn_at}
use Rattle.ia_insn.specs.Reading.{decoding_of}
use Rattle.ia_insn.specs.Table.{alu_row, row_40, row_80, row_A0, row_C0, one_byte, two_byte, behind_f3}
use Rattle.ia_addr.specs.Address.{address_of}
use Rattle.ia_addr.specs.Load.{read_of, pair_of, op_load, load_of}
use Rattle.ia_alu.specs.Bits.{bit_value}
use Rattle.ia_alu.specs.Numbers.{signed_value, overflows}
use Rattle.ia_alu.specs.Ops.{logic_flags, alu_value, alu_flags, inc_dec_value, inc_dec_flags}
use Rattle.ia_alu.specs.Sums.{sum_flags, difference_flags}
use Rattle.ia_exec.specs.Arithmetic.{alu_of, bit_of, cmpxchg_of, exchange_of}
use Rattle.ia_exec.specs.Laws.{fallback_of}
use Rattle.ia_exec.specs.Moves.{xchg_of}
use Rattle.ia_exec.specs.Table.{control_of, cpuid_of, move_of, effect_of, unary_of, bare_of, done_of, finish_of}
use Rattle.ia_exec.specs.Words.{value_of, put_of}
use Rattle.tm_rule.specs.Rule.{fetched, load_at, outside_of, inside_of, fallback_of as rule_fallback_of}
use Rattle.tm_rule.specs.declared.kinds.Stop.TheVariants as why
use Rattle.tm_model.specs.Conflicts.{Doomed}
use Rattle.tm_model.specs.Conflicts.{doomed_after}
use Rattle.tm_model.specs.Setting.{Setting, setting_of}
use Rattle.tm_model.specs.State.{Closed, Core, Halted, Midway, Opened, Pending, State}
use Rattle.tm_model.specs.Steps.{step}
use Rattle.tm_model.specs.Types.{Aborted, AbortedBy, Begun, Committed, Drained, Event, Idle, Inside, Loaded, Outcome}
use Rattle.tm_model.specs.Types.{Pick}
use Rattle.tm_model.specs.Types.{Plain, Regs, Stopped}
use Rattle.tm_model.specs.declared.outcome.Event.TheVariants as event
use Rattle.tm_model.specs.declared.outcome.Interference.TheVariants as by
use Rattle.tm_model.proofs.ByLists.{doomed_after_by_lists, owing, owing_by_lists, same_under, same_doomed}

-- ---- a schedule

-- outcomes, and what is seen of the state after them
pub record Trace : Type 0 where
  pub outcomes : List Outcome
  pub x : ℕ  -- the byte of memory at 1000h
  pub y : ℕ  -- the one at 1040h
  pub eax : ℕ  -- of core 0, before an open transaction
  pub other : ℕ  -- EAX of core 1

abbrev Owes : Type 0
Owes = Option Event → List ℕ → Pending → Core → Option ℕ → Outcome

abbrev Dooms : Type 0
Dooms = State → Doomed → ℕ → Outcome → Doomed

abbrev core : ℕ → Pick
core number = record { core = number; event = None }

abbrev drain : ℕ → Pick
drain number = record { core = number; event = Some event.Drain }

abbrev interrupt : ℕ → Pick
interrupt number = record { core = number; event = Some (event.Abort by.Interrupt) }

abbrev regs_of : Core → Regs
regs_of (Closed regs) = regs
regs_of (Midway regs value) = regs
regs_of (Halted regs stop) = regs
regs_of (Opened regs steps) = regs

abbrev ended : State → Trace
ended state = record {
  outcomes = [];
  x = slice_index state.memory 0x1000;
  y = slice_index state.memory 0x1040;
  eax = slice_index (regs_of (state.cores 0)).gpr 0;
  other = slice_index (regs_of (state.cores 1)).gpr 0;
}

-- the owed steps of a schedule, until one is not allowed
abbrev trace : Owes → Dooms → Setting → State → Doomed → List Pick → Trace
trace owes dooms setting state doomed [] = ended state
trace owes dooms setting state doomed (pick ∷ picks) =
    let outcome : Outcome =
    owes pick.event state.memory (state.pending pick.core) (state.cores pick.core) (doomed pick.core) in
    elim (step setting state pick.core outcome) [
      | None ↦ record (ended state) { x = 256 }
      | Some next ↦
          let rest : Trace = trace owes dooms setting next (dooms state doomed pick.core outcome) picks in
          record rest { outcomes = outcome ∷ rest.outcomes }
    ]

abbrev registers : ℕ → ℕ → Regs
registers number entry = record {
  gpr = number ∷ 2 ∷ 0 ∷ 0 ∷ 0 ∷ 0 ∷ 0 ∷ 0 ∷ [];
  flags = record { 0 = 0 };
  eip = entry;
}

-- two cores over empty memory of 1080h bytes; core 0 begins at 100h, core 1 at its entry
abbrev start : ℕ → State
start entry = record {
  memory = replicate 0x1080 0;
  count = 2;
  cores = λ number. Closed (registers number (if nat_eq number 0 then 0x100 else entry));
  pending = λ _. [];
}

-- these outcomes, then these bytes at 1000h and 1040h, and this EAX of each core
abbrev EndsWith : Trace → List Outcome → ℕ → ℕ → ℕ → ℕ → Type 0
EndsWith end outcomes x y eax other =
    (end.outcomes ≡ outcomes) × (end.x ≡ x) × (end.y ≡ y) × (end.eax ≡ eax) × (end.other ≡ other)

-- with at most so many stores pending
abbrev setting_on : ℕ → List ℕ → Setting
setting_on most code = setting_of code 0x100 0x1080 512 512 most

-- by the definitions, and by lists
abbrev trace_of : ℕ → List ℕ → ℕ → List Pick → Trace
trace_of most code entry schedule =
    trace (owing (setting_on most code)) (doomed_after (setting_on most code)) (setting_on most code)
    (start entry) (λ _. None) schedule

abbrev trace_by_lists : ℕ → List ℕ → ℕ → List Pick → Trace
trace_by_lists most code entry schedule =
    trace (owing_by_lists (setting_on most code)) (doomed_after_by_lists (setting_on most code))
    (setting_on most code) (start entry) (λ _. None) schedule

-- this code at 100h ends so under this schedule
pub record RowIs (most : ℕ) (code : List ℕ) (entry : ℕ) (schedule : List Pick) (outcomes : List Outcome)
    (x y eax other : ℕ) : Type 0 where
  pub holds : EndsWith (trace_of most code entry schedule) outcomes x y eax other

as_computed : (most : ℕ) (code : List ℕ) (entry : ℕ) (schedule : List Pick) (outcomes : List Outcome)
    (x y eax other : ℕ) → EndsWith (trace_by_lists most code entry schedule) outcomes x y eax other →
    RowIs most code entry schedule outcomes x y eax other
as_computed most code entry schedule outcomes x y eax other ends = record {
  holds = subst (λ (end : Trace). EndsWith end outcomes x y eax other) (sym same) ends;
}
  where
    same : trace_of most code entry schedule ≡ trace_by_lists most code entry schedule
    same = λ i.
        trace (same_under (setting_on most code) i) (same_doomed (setting_on most code) i) (setting_on most code)
        (start entry) (λ _. None) schedule

-- store buffering: both loads are made while both stores are pending. HLT waits, so that none is pending then
stores_wait :
    RowIs 1 (0xC7 ∷ 0x05 ∷ 0x00 ∷ 0x10 ∷ 0x00 ∷ 0x00 ∷ 0x01 ∷ 0x00 ∷ 0x00 ∷ 0x00 ∷ 0xA1 ∷ 0x40 ∷ 0x10 ∷ 0x00 ∷
    0x00 ∷ 0xF4 ∷ 0xC7 ∷ 0x05 ∷ 0x40 ∷ 0x10 ∷ 0x00 ∷ 0x00 ∷ 0x01 ∷ 0x00 ∷ 0x00 ∷ 0x00 ∷ 0xA1 ∷ 0x00 ∷
    0x10 ∷ 0x00 ∷ 0x00 ∷ 0xF4 ∷ []) 0x110
    (core 0 ∷ core 1 ∷ core 0 ∷ core 1 ∷ core 0 ∷ core 0 ∷ core 1 ∷ core 1 ∷ [])
    (Plain ∷ Plain ∷ Plain ∷ Plain ∷ Drained ∷ (Stopped why.Halt) ∷ Drained ∷ (Stopped why.Halt) ∷ []) 0x1 0x1 0x0 0x0
unfolding has_carry has_parity has_adjust has_zero has_sign has_overflow flags_of signed_at disp_at base_at
    mem_at operand_at head_at modrm_at op_at insn_at decoding_of alu_row row_40 row_80 row_A0 row_C0 one_byte
    two_byte behind_f3 address_of read_of pair_of op_load load_of bit_value signed_value overflows logic_flags
    alu_value alu_flags inc_dec_value inc_dec_flags sum_flags difference_flags alu_of bit_of cmpxchg_of fallback_of
    exchange_of control_of move_of effect_of unary_of bare_of done_of finish_of value_of put_of fetched load_at
    outside_of inside_of rule_fallback_of
stores_wait = as_computed _ _ _ _ _ _ _ _ _ (refl, refl, refl, refl, refl)

-- the same with no store buffer
stores_are_at_once :
    RowIs 0 (0xC7 ∷ 0x05 ∷ 0x00 ∷ 0x10 ∷ 0x00 ∷ 0x00 ∷ 0x01 ∷ 0x00 ∷ 0x00 ∷ 0x00 ∷ 0xA1 ∷ 0x40 ∷ 0x10 ∷ 0x00 ∷
    0x00 ∷ 0xF4 ∷ 0xC7 ∷ 0x05 ∷ 0x40 ∷ 0x10 ∷ 0x00 ∷ 0x00 ∷ 0x01 ∷ 0x00 ∷ 0x00 ∷ 0x00 ∷ 0xA1 ∷ 0x00 ∷
    0x10 ∷ 0x00 ∷ 0x00 ∷ 0xF4 ∷ []) 0x110
    (core 0 ∷ core 1 ∷ core 0 ∷ core 1 ∷ core 0 ∷ core 0 ∷ core 1 ∷ core 1 ∷ [])
    (Plain ∷ Plain ∷ Plain ∷ Plain ∷ (Stopped why.Halt) ∷ Idle ∷ (Stopped why.Halt) ∷ Idle ∷ []) 0x1 0x1 0x1 0x1
unfolding has_carry has_parity has_adjust has_zero has_sign has_overflow flags_of signed_at disp_at base_at
    mem_at operand_at head_at modrm_at op_at insn_at decoding_of alu_row row_40 row_80 row_A0 row_C0 one_byte
    two_byte behind_f3 address_of read_of pair_of op_load load_of bit_value signed_value overflows logic_flags
    alu_value alu_flags inc_dec_value inc_dec_flags sum_flags difference_flags alu_of bit_of cmpxchg_of fallback_of
    exchange_of control_of move_of effect_of unary_of bare_of done_of finish_of value_of put_of fetched load_at
    outside_of inside_of rule_fallback_of
stores_are_at_once = as_computed _ _ _ _ _ _ _ _ _ (refl, refl, refl, refl, refl)

-- the same where the store of core 0 drains before core 1 loads
a_drain_comes_between :
    RowIs 1 (0xC7 ∷ 0x05 ∷ 0x00 ∷ 0x10 ∷ 0x00 ∷ 0x00 ∷ 0x01 ∷ 0x00 ∷ 0x00 ∷ 0x00 ∷ 0xA1 ∷ 0x40 ∷ 0x10 ∷ 0x00 ∷
    0x00 ∷ 0xF4 ∷ 0xC7 ∷ 0x05 ∷ 0x40 ∷ 0x10 ∷ 0x00 ∷ 0x00 ∷ 0x01 ∷ 0x00 ∷ 0x00 ∷ 0x00 ∷ 0xA1 ∷ 0x00 ∷
    0x10 ∷ 0x00 ∷ 0x00 ∷ 0xF4 ∷ []) 0x110
    (core 0 ∷ core 1 ∷ core 0 ∷ drain 0 ∷ core 1 ∷ core 1 ∷ core 1 ∷ [])
    (Plain ∷ Plain ∷ Plain ∷ Drained ∷ Plain ∷ Drained ∷ (Stopped why.Halt) ∷ []) 0x1 0x1 0x0 0x1
unfolding has_carry has_parity has_adjust has_zero has_sign has_overflow flags_of signed_at disp_at base_at
    mem_at operand_at head_at modrm_at op_at insn_at decoding_of alu_row row_40 row_80 row_A0 row_C0 one_byte
    two_byte behind_f3 address_of read_of pair_of op_load load_of bit_value signed_value overflows logic_flags
    alu_value alu_flags inc_dec_value inc_dec_flags sum_flags difference_flags alu_of bit_of cmpxchg_of fallback_of
    exchange_of control_of move_of effect_of unary_of bare_of done_of finish_of value_of put_of fetched load_at
    outside_of inside_of rule_fallback_of
a_drain_comes_between = as_computed _ _ _ _ _ _ _ _ _ (refl, refl, refl, refl, refl)

-- store buffering with MFENCE between
mfence_waits :
    RowIs 1 (0xC7 ∷ 0x05 ∷ 0x00 ∷ 0x10 ∷ 0x00 ∷ 0x00 ∷ 0x01 ∷ 0x00 ∷ 0x00 ∷ 0x00 ∷ 0x0F ∷ 0xAE ∷ 0xF0 ∷ 0xA1 ∷
    0x40 ∷ 0x10 ∷ 0x00 ∷ 0x00 ∷ 0xF4 ∷ 0xC7 ∷ 0x05 ∷ 0x40 ∷ 0x10 ∷ 0x00 ∷ 0x00 ∷ 0x01 ∷ 0x00 ∷ 0x00 ∷
    0x00 ∷ 0x0F ∷ 0xAE ∷ 0xF0 ∷ 0xA1 ∷ 0x00 ∷ 0x10 ∷ 0x00 ∷ 0x00 ∷ 0xF4 ∷ []) 0x113
    (core 0 ∷ core 1 ∷ core 0 ∷ core 0 ∷ core 0 ∷ core 1 ∷ core 1 ∷ core 1 ∷ [])
    (Plain ∷ Plain ∷ Drained ∷ Plain ∷ Plain ∷ Drained ∷ Plain ∷ Plain ∷ []) 0x1 0x1 0x0 0x1
unfolding has_carry has_parity has_adjust has_zero has_sign has_overflow flags_of signed_at disp_at base_at
    mem_at operand_at head_at modrm_at op_at insn_at decoding_of alu_row row_40 row_80 row_A0 row_C0 one_byte
    two_byte behind_f3 address_of read_of pair_of op_load load_of bit_value signed_value overflows logic_flags
    alu_value alu_flags inc_dec_value inc_dec_flags sum_flags difference_flags alu_of bit_of cmpxchg_of fallback_of
    exchange_of control_of move_of effect_of unary_of bare_of done_of finish_of value_of put_of fetched load_at
    outside_of inside_of rule_fallback_of
mfence_waits = as_computed _ _ _ _ _ _ _ _ _ (refl, refl, refl, refl, refl)

-- the same, in turn
mfence_waits_on_both :
    RowIs 1 (0xC7 ∷ 0x05 ∷ 0x00 ∷ 0x10 ∷ 0x00 ∷ 0x00 ∷ 0x01 ∷ 0x00 ∷ 0x00 ∷ 0x00 ∷ 0x0F ∷ 0xAE ∷ 0xF0 ∷ 0xA1 ∷
    0x40 ∷ 0x10 ∷ 0x00 ∷ 0x00 ∷ 0xF4 ∷ 0xC7 ∷ 0x05 ∷ 0x40 ∷ 0x10 ∷ 0x00 ∷ 0x00 ∷ 0x01 ∷ 0x00 ∷ 0x00 ∷
    0x00 ∷ 0x0F ∷ 0xAE ∷ 0xF0 ∷ 0xA1 ∷ 0x00 ∷ 0x10 ∷ 0x00 ∷ 0x00 ∷ 0xF4 ∷ []) 0x113
    (core 0 ∷ core 1 ∷ core 0 ∷ core 1 ∷ core 0 ∷ core 1 ∷ core 0 ∷ core 1 ∷ [])
    (Plain ∷ Plain ∷ Drained ∷ Drained ∷ Plain ∷ Plain ∷ Plain ∷ Plain ∷ []) 0x1 0x1 0x1 0x1
unfolding has_carry has_parity has_adjust has_zero has_sign has_overflow flags_of signed_at disp_at base_at
    mem_at operand_at head_at modrm_at op_at insn_at decoding_of alu_row row_40 row_80 row_A0 row_C0 one_byte
    two_byte behind_f3 address_of read_of pair_of op_load load_of bit_value signed_value overflows logic_flags
    alu_value alu_flags inc_dec_value inc_dec_flags sum_flags difference_flags alu_of bit_of cmpxchg_of fallback_of
    exchange_of control_of move_of effect_of unary_of bare_of done_of finish_of value_of put_of fetched load_at
    outside_of inside_of rule_fallback_of
mfence_waits_on_both = as_computed _ _ _ _ _ _ _ _ _ (refl, refl, refl, refl, refl)

-- LFENCE and SFENCE
lfence_and_sfence_do_not_wait :
    RowIs 1 (0xC7 ∷ 0x05 ∷ 0x00 ∷ 0x10 ∷ 0x00 ∷ 0x00 ∷ 0x01 ∷ 0x00 ∷ 0x00 ∷ 0x00 ∷ 0x0F ∷ 0xAE ∷ 0xE8 ∷ 0x0F ∷
    0xAE ∷ 0xF8 ∷ 0xA1 ∷ 0x40 ∷ 0x10 ∷ 0x00 ∷ 0x00 ∷ 0xC7 ∷ 0x05 ∷ 0x40 ∷ 0x10 ∷ 0x00 ∷ 0x00 ∷ 0x01 ∷
    0x00 ∷ 0x00 ∷ 0x00 ∷ 0x0F ∷ 0xAE ∷ 0xE8 ∷ 0x0F ∷ 0xAE ∷ 0xF8 ∷ 0xA1 ∷ 0x00 ∷ 0x10 ∷ 0x00 ∷ 0x00 ∷ []) 0x115
    (core 0 ∷ core 1 ∷ core 0 ∷ core 0 ∷ core 0 ∷ core 1 ∷ core 1 ∷ core 1 ∷ [])
    (Plain ∷ Plain ∷ Plain ∷ Plain ∷ Plain ∷ Plain ∷ Plain ∷ Plain ∷ []) 0x0 0x0 0x0 0x0
unfolding has_carry has_parity has_adjust has_zero has_sign has_overflow flags_of signed_at disp_at base_at
    mem_at operand_at head_at modrm_at op_at insn_at decoding_of alu_row row_40 row_80 row_A0 row_C0 one_byte
    two_byte behind_f3 address_of read_of pair_of op_load load_of bit_value signed_value overflows logic_flags
    alu_value alu_flags inc_dec_value inc_dec_flags sum_flags difference_flags alu_of bit_of cmpxchg_of fallback_of
    exchange_of control_of move_of effect_of unary_of bare_of done_of finish_of value_of put_of fetched load_at
    outside_of inside_of rule_fallback_of
lfence_and_sfence_do_not_wait = as_computed _ _ _ _ _ _ _ _ _ (refl, refl, refl, refl, refl)

-- mov dword [1000h], 1; xchg [1040h], eax: what XCHG stores is in memory at once
xchg_waits :
    RowIs 64 (0xC7 ∷ 0x05 ∷ 0x00 ∷ 0x10 ∷ 0x00 ∷ 0x00 ∷ 0x01 ∷ 0x00 ∷ 0x00 ∷ 0x00 ∷ 0xB8 ∷ 0x02 ∷ 0x00 ∷ 0x00 ∷
    0x00 ∷ 0x87 ∷ 0x05 ∷ 0x40 ∷ 0x10 ∷ 0x00 ∷ 0x00 ∷ []) 0x100
    (core 0 ∷ core 0 ∷ core 0 ∷ core 0 ∷ [])
    (Plain ∷ Plain ∷ Drained ∷ Plain ∷ []) 0x1 0x2 0x0 0x1
unfolding has_carry has_parity has_adjust has_zero has_sign has_overflow flags_of signed_at disp_at base_at
    mem_at operand_at head_at modrm_at op_at insn_at decoding_of alu_row row_40 row_80 row_A0 row_C0 one_byte
    two_byte behind_f3 address_of read_of pair_of op_load load_of bit_value signed_value overflows logic_flags
    alu_value alu_flags inc_dec_value inc_dec_flags sum_flags difference_flags alu_of bit_of cmpxchg_of fallback_of
    exchange_of control_of move_of effect_of unary_of bare_of done_of finish_of value_of put_of fetched load_at
    outside_of inside_of rule_fallback_of xchg_of
xchg_waits = as_computed _ _ _ _ _ _ _ _ _ (refl, refl, refl, refl, refl)

-- mov dword [1000h], 1; lock inc dword [1000h]
lock_waits :
    RowIs 64 (0xC7 ∷ 0x05 ∷ 0x00 ∷ 0x10 ∷ 0x00 ∷ 0x00 ∷ 0x01 ∷ 0x00 ∷ 0x00 ∷ 0x00 ∷ 0xF0 ∷ 0xFF ∷ 0x05 ∷ 0x00 ∷
    0x10 ∷ 0x00 ∷ 0x00 ∷ []) 0x100
    (core 0 ∷ core 0 ∷ core 0 ∷ [])
    (Plain ∷ Drained ∷ Plain ∷ []) 0x2 0x0 0x0 0x1
unfolding has_carry has_parity has_adjust has_zero has_sign has_overflow flags_of signed_at disp_at base_at
    mem_at operand_at head_at modrm_at op_at insn_at decoding_of alu_row row_40 row_80 row_A0 row_C0 one_byte
    two_byte behind_f3 address_of read_of pair_of op_load load_of bit_value signed_value overflows logic_flags
    alu_value alu_flags inc_dec_value inc_dec_flags sum_flags difference_flags alu_of bit_of cmpxchg_of fallback_of
    exchange_of control_of move_of effect_of unary_of bare_of done_of finish_of value_of put_of fetched load_at
    outside_of inside_of rule_fallback_of
lock_waits = as_computed _ _ _ _ _ _ _ _ _ (refl, refl, refl, refl, refl)

-- mov dword [1000h], 1; cpuid
cpuid_waits :
    RowIs 64 (0xC7 ∷ 0x05 ∷ 0x00 ∷ 0x10 ∷ 0x00 ∷ 0x00 ∷ 0x01 ∷ 0x00 ∷ 0x00 ∷ 0x00 ∷ 0x0F ∷ 0xA2 ∷ []) 0x100
    (core 0 ∷ core 0 ∷ core 0 ∷ [])
    (Plain ∷ Drained ∷ Plain ∷ []) 0x1 0x0 0x7 0x1
unfolding has_carry has_parity has_adjust has_zero has_sign has_overflow flags_of signed_at disp_at base_at
    mem_at operand_at head_at modrm_at op_at insn_at decoding_of alu_row row_40 row_80 row_A0 row_C0 one_byte
    two_byte behind_f3 address_of read_of pair_of op_load load_of bit_value signed_value overflows logic_flags
    alu_value alu_flags inc_dec_value inc_dec_flags sum_flags difference_flags alu_of bit_of cmpxchg_of fallback_of
    exchange_of control_of move_of effect_of unary_of bare_of done_of finish_of value_of put_of fetched load_at
    outside_of inside_of rule_fallback_of cpuid_of
cpuid_waits = as_computed _ _ _ _ _ _ _ _ _ (refl, refl, refl, refl, refl)

-- inc dword [1000h] twice: the second loads what the first has stored, which is pending
increment_in_two_steps :
    RowIs 2 (0xFF ∷ 0x05 ∷ 0x00 ∷ 0x10 ∷ 0x00 ∷ 0x00 ∷ 0xFF ∷ 0x05 ∷ 0x00 ∷ 0x10 ∷ 0x00 ∷ 0x00 ∷ []) 0x100
    (core 0 ∷ core 0 ∷ core 0 ∷ core 0 ∷ drain 0 ∷ [])
    (Loaded ∷ Plain ∷ Loaded ∷ Plain ∷ Drained ∷ []) 0x1 0x0 0x0 0x1
unfolding has_carry has_parity has_adjust has_zero has_sign has_overflow flags_of signed_at disp_at base_at
    mem_at operand_at head_at modrm_at op_at insn_at decoding_of alu_row row_40 row_80 row_A0 row_C0 one_byte
    two_byte behind_f3 address_of read_of pair_of op_load load_of bit_value signed_value overflows logic_flags
    alu_value alu_flags inc_dec_value inc_dec_flags sum_flags difference_flags alu_of bit_of cmpxchg_of fallback_of
    exchange_of control_of move_of effect_of unary_of bare_of done_of finish_of value_of put_of fetched load_at
    outside_of inside_of rule_fallback_of
increment_in_two_steps = as_computed _ _ _ _ _ _ _ _ _ (refl, refl, refl, refl, refl)

-- the second of two steps waits where there is no room
second_step_waits_for_room :
    RowIs 1 (0xC7 ∷ 0x05 ∷ 0x00 ∷ 0x10 ∷ 0x00 ∷ 0x00 ∷ 0x05 ∷ 0x00 ∷ 0x00 ∷ 0x00 ∷ 0xFF ∷ 0x05 ∷ 0x00 ∷ 0x10 ∷
    0x00 ∷ 0x00 ∷ []) 0x100
    (core 0 ∷ core 0 ∷ core 0 ∷ core 0 ∷ drain 0 ∷ [])
    (Plain ∷ Loaded ∷ Drained ∷ Plain ∷ Drained ∷ []) 0x6 0x0 0x0 0x1
unfolding has_carry has_parity has_adjust has_zero has_sign has_overflow flags_of signed_at disp_at base_at
    mem_at operand_at head_at modrm_at op_at insn_at decoding_of alu_row row_40 row_80 row_A0 row_C0 one_byte
    two_byte behind_f3 address_of read_of pair_of op_load load_of bit_value signed_value overflows logic_flags
    alu_value alu_flags inc_dec_value inc_dec_flags sum_flags difference_flags alu_of bit_of cmpxchg_of fallback_of
    exchange_of control_of move_of effect_of unary_of bare_of done_of finish_of value_of put_of fetched load_at
    outside_of inside_of rule_fallback_of
second_step_waits_for_room = as_computed _ _ _ _ _ _ _ _ _ (refl, refl, refl, refl, refl)

-- mov dword [1000h], 1; mov dword [1040h], 1 with room for one
no_room :
    RowIs 1 (0xC7 ∷ 0x05 ∷ 0x00 ∷ 0x10 ∷ 0x00 ∷ 0x00 ∷ 0x01 ∷ 0x00 ∷ 0x00 ∷ 0x00 ∷ 0xC7 ∷ 0x05 ∷ 0x40 ∷ 0x10 ∷
    0x00 ∷ 0x00 ∷ 0x01 ∷ 0x00 ∷ 0x00 ∷ 0x00 ∷ []) 0x100
    (core 0 ∷ core 0 ∷ core 0 ∷ [])
    (Plain ∷ Drained ∷ Plain ∷ []) 0x1 0x0 0x0 0x1
unfolding has_carry has_parity has_adjust has_zero has_sign has_overflow flags_of signed_at disp_at base_at
    mem_at operand_at head_at modrm_at op_at insn_at decoding_of alu_row row_40 row_80 row_A0 row_C0 one_byte
    two_byte behind_f3 address_of read_of pair_of op_load load_of bit_value signed_value overflows logic_flags
    alu_value alu_flags inc_dec_value inc_dec_flags sum_flags difference_flags alu_of bit_of cmpxchg_of fallback_of
    exchange_of control_of move_of effect_of unary_of bare_of done_of finish_of value_of put_of fetched load_at
    outside_of inside_of rule_fallback_of
no_room = as_computed _ _ _ _ _ _ _ _ _ (refl, refl, refl, refl, refl)

-- with room for two: the oldest drains first
in_order :
    RowIs 2 (0xC7 ∷ 0x05 ∷ 0x00 ∷ 0x10 ∷ 0x00 ∷ 0x00 ∷ 0x01 ∷ 0x00 ∷ 0x00 ∷ 0x00 ∷ 0xC7 ∷ 0x05 ∷ 0x40 ∷ 0x10 ∷
    0x00 ∷ 0x00 ∷ 0x01 ∷ 0x00 ∷ 0x00 ∷ 0x00 ∷ []) 0x100
    (core 0 ∷ core 0 ∷ drain 0 ∷ [])
    (Plain ∷ Plain ∷ Drained ∷ []) 0x1 0x0 0x0 0x1
unfolding has_carry has_parity has_adjust has_zero has_sign has_overflow flags_of signed_at disp_at base_at
    mem_at operand_at head_at modrm_at op_at insn_at decoding_of alu_row row_40 row_80 row_A0 row_C0 one_byte
    two_byte behind_f3 address_of read_of pair_of op_load load_of bit_value signed_value overflows logic_flags
    alu_value alu_flags inc_dec_value inc_dec_flags sum_flags difference_flags alu_of bit_of cmpxchg_of fallback_of
    exchange_of control_of move_of effect_of unary_of bare_of done_of finish_of value_of put_of fetched load_at
    outside_of inside_of rule_fallback_of
in_order = as_computed _ _ _ _ _ _ _ _ _ (refl, refl, refl, refl, refl)

-- mov byte [1001h], 2; mov eax, [1000h] after core 1 has stored 1 to 1000h: byte by byte
own_bytes_are_seen :
    RowIs 1 (0xC6 ∷ 0x05 ∷ 0x01 ∷ 0x10 ∷ 0x00 ∷ 0x00 ∷ 0x02 ∷ 0xA1 ∷ 0x00 ∷ 0x10 ∷ 0x00 ∷ 0x00 ∷ 0xC6 ∷ 0x05 ∷
    0x00 ∷ 0x10 ∷ 0x00 ∷ 0x00 ∷ 0x01 ∷ []) 0x10c
    (core 0 ∷ core 1 ∷ drain 1 ∷ core 0 ∷ drain 0 ∷ [])
    (Plain ∷ Plain ∷ Drained ∷ Plain ∷ Drained ∷ []) 0x1 0x0 0x201 0x1
unfolding has_carry has_parity has_adjust has_zero has_sign has_overflow flags_of signed_at disp_at base_at
    mem_at operand_at head_at modrm_at op_at insn_at decoding_of alu_row row_40 row_80 row_A0 row_C0 one_byte
    two_byte behind_f3 address_of read_of pair_of op_load load_of bit_value signed_value overflows logic_flags
    alu_value alu_flags inc_dec_value inc_dec_flags sum_flags difference_flags alu_of bit_of cmpxchg_of fallback_of
    exchange_of control_of move_of effect_of unary_of bare_of done_of finish_of value_of put_of fetched load_at
    outside_of inside_of rule_fallback_of
own_bytes_are_seen = as_computed _ _ _ _ _ _ _ _ _ (refl, refl, refl, refl, refl)

-- Intel's 2.4, forwarding: each core sees its own store before the other's
own_store_is_seen_first :
    RowIs 1 (0xC7 ∷ 0x05 ∷ 0x00 ∷ 0x10 ∷ 0x00 ∷ 0x00 ∷ 0x01 ∷ 0x00 ∷ 0x00 ∷ 0x00 ∷ 0xA1 ∷ 0x00 ∷ 0x10 ∷ 0x00 ∷
    0x00 ∷ 0xA1 ∷ 0x40 ∷ 0x10 ∷ 0x00 ∷ 0x00 ∷ 0xC7 ∷ 0x05 ∷ 0x40 ∷ 0x10 ∷ 0x00 ∷ 0x00 ∷ 0x01 ∷ 0x00 ∷
    0x00 ∷ 0x00 ∷ 0xA1 ∷ 0x40 ∷ 0x10 ∷ 0x00 ∷ 0x00 ∷ 0xA1 ∷ 0x00 ∷ 0x10 ∷ 0x00 ∷ 0x00 ∷ []) 0x114
    (core 0 ∷ core 1 ∷ core 0 ∷ core 1 ∷ core 0 ∷ core 1 ∷ [])
    (Plain ∷ Plain ∷ Plain ∷ Plain ∷ Plain ∷ Plain ∷ []) 0x0 0x0 0x0 0x0
unfolding has_carry has_parity has_adjust has_zero has_sign has_overflow flags_of signed_at disp_at base_at
    mem_at operand_at head_at modrm_at op_at insn_at decoding_of alu_row row_40 row_80 row_A0 row_C0 one_byte
    two_byte behind_f3 address_of read_of pair_of op_load load_of bit_value signed_value overflows logic_flags
    alu_value alu_flags inc_dec_value inc_dec_flags sum_flags difference_flags alu_of bit_of cmpxchg_of fallback_of
    exchange_of control_of move_of effect_of unary_of bare_of done_of finish_of value_of put_of fetched load_at
    outside_of inside_of rule_fallback_of
own_store_is_seen_first = as_computed _ _ _ _ _ _ _ _ _ (refl, refl, refl, refl, refl)

-- core 0 sees its own 1 and no store of core 1, and stores last
a_later_drain_wins :
    RowIs 2 (0xC7 ∷ 0x05 ∷ 0x00 ∷ 0x10 ∷ 0x00 ∷ 0x00 ∷ 0x01 ∷ 0x00 ∷ 0x00 ∷ 0x00 ∷ 0xA1 ∷ 0x00 ∷ 0x10 ∷ 0x00 ∷
    0x00 ∷ 0xA1 ∷ 0x40 ∷ 0x10 ∷ 0x00 ∷ 0x00 ∷ 0xC7 ∷ 0x05 ∷ 0x40 ∷ 0x10 ∷ 0x00 ∷ 0x00 ∷ 0x02 ∷ 0x00 ∷
    0x00 ∷ 0x00 ∷ 0xC7 ∷ 0x05 ∷ 0x00 ∷ 0x10 ∷ 0x00 ∷ 0x00 ∷ 0x02 ∷ 0x00 ∷ 0x00 ∷ 0x00 ∷ []) 0x114
    (core 0 ∷ core 0 ∷ core 0 ∷ core 1 ∷ core 1 ∷ drain 1 ∷ drain 1 ∷ drain 0 ∷ [])
    (Plain ∷ Plain ∷ Plain ∷ Plain ∷ Plain ∷ Drained ∷ Drained ∷ Drained ∷ []) 0x1 0x2 0x0 0x1
unfolding has_carry has_parity has_adjust has_zero has_sign has_overflow flags_of signed_at disp_at base_at
    mem_at operand_at head_at modrm_at op_at insn_at decoding_of alu_row row_40 row_80 row_A0 row_C0 one_byte
    two_byte behind_f3 address_of read_of pair_of op_load load_of bit_value signed_value overflows logic_flags
    alu_value alu_flags inc_dec_value inc_dec_flags sum_flags difference_flags alu_of bit_of cmpxchg_of fallback_of
    exchange_of control_of move_of effect_of unary_of bare_of done_of finish_of value_of put_of fetched load_at
    outside_of inside_of rule_fallback_of
a_later_drain_wins = as_computed _ _ _ _ _ _ _ _ _ (refl, refl, refl, refl, refl)

-- core 1 stores to the line that core 0's transaction has loaded: the store hits it when it drains
a_store_hits_at_its_drain :
    RowIs 1 (0xC7 ∷ 0xF8 ∷ 0x0F ∷ 0x00 ∷ 0x00 ∷ 0x00 ∷ 0xA1 ∷ 0x00 ∷ 0x10 ∷ 0x00 ∷ 0x00 ∷ 0x40 ∷ 0xA3 ∷ 0x00 ∷
    0x10 ∷ 0x00 ∷ 0x00 ∷ 0x0F ∷ 0x01 ∷ 0xD5 ∷ 0xF4 ∷ 0xF4 ∷ 0xC6 ∷ 0x05 ∷ 0x00 ∷ 0x10 ∷ 0x00 ∷ 0x00 ∷
    0x07 ∷ []) 0x116
    (core 0 ∷ core 0 ∷ core 1 ∷ core 0 ∷ drain 1 ∷ core 0 ∷ [])
    (Begun ∷ Inside ∷ Plain ∷ Inside ∷ Drained ∷ (Aborted 6) ∷ []) 0x7 0x0 0x6 0x1
unfolding has_carry has_parity has_adjust has_zero has_sign has_overflow flags_of signed_at disp_at base_at
    mem_at operand_at head_at modrm_at op_at insn_at decoding_of alu_row row_40 row_80 row_A0 row_C0 one_byte
    two_byte behind_f3 address_of read_of pair_of op_load load_of bit_value signed_value overflows logic_flags
    alu_value alu_flags inc_dec_value inc_dec_flags sum_flags difference_flags alu_of bit_of cmpxchg_of fallback_of
    exchange_of control_of move_of effect_of unary_of bare_of done_of finish_of value_of put_of fetched load_at
    outside_of inside_of rule_fallback_of
a_store_hits_at_its_drain = as_computed _ _ _ _ _ _ _ _ _ (refl, refl, refl, refl, refl)

-- the same where core 0 commits before the drain
a_commit_comes_before_the_drain :
    RowIs 1 (0xC7 ∷ 0xF8 ∷ 0x0F ∷ 0x00 ∷ 0x00 ∷ 0x00 ∷ 0xA1 ∷ 0x00 ∷ 0x10 ∷ 0x00 ∷ 0x00 ∷ 0x40 ∷ 0xA3 ∷ 0x00 ∷
    0x10 ∷ 0x00 ∷ 0x00 ∷ 0x0F ∷ 0x01 ∷ 0xD5 ∷ 0xF4 ∷ 0xF4 ∷ 0xC6 ∷ 0x05 ∷ 0x00 ∷ 0x10 ∷ 0x00 ∷ 0x00 ∷
    0x07 ∷ []) 0x116
    (core 0 ∷ core 0 ∷ core 1 ∷ core 0 ∷ core 0 ∷ core 0 ∷ drain 1 ∷ [])
    (Begun ∷ Inside ∷ Plain ∷ Inside ∷ Inside ∷ Committed ∷ Drained ∷ []) 0x7 0x0 0x1 0x1
unfolding has_carry has_parity has_adjust has_zero has_sign has_overflow flags_of signed_at disp_at base_at
    mem_at operand_at head_at modrm_at op_at insn_at decoding_of alu_row row_40 row_80 row_A0 row_C0 one_byte
    two_byte behind_f3 address_of read_of pair_of op_load load_of bit_value signed_value overflows logic_flags
    alu_value alu_flags inc_dec_value inc_dec_flags sum_flags difference_flags alu_of bit_of cmpxchg_of fallback_of
    exchange_of control_of move_of effect_of unary_of bare_of done_of finish_of value_of put_of fetched load_at
    outside_of inside_of rule_fallback_of
a_commit_comes_before_the_drain = as_computed _ _ _ _ _ _ _ _ _ (refl, refl, refl, refl, refl)

-- lock inc dword [1000h] in its place
a_locked_store_hits_at_once :
    RowIs 1 (0xC7 ∷ 0xF8 ∷ 0x0F ∷ 0x00 ∷ 0x00 ∷ 0x00 ∷ 0xA1 ∷ 0x00 ∷ 0x10 ∷ 0x00 ∷ 0x00 ∷ 0x40 ∷ 0xA3 ∷ 0x00 ∷
    0x10 ∷ 0x00 ∷ 0x00 ∷ 0x0F ∷ 0x01 ∷ 0xD5 ∷ 0xF4 ∷ 0xF4 ∷ 0xF0 ∷ 0xFF ∷ 0x05 ∷ 0x00 ∷ 0x10 ∷ 0x00 ∷
    0x00 ∷ []) 0x116
    (core 0 ∷ core 0 ∷ core 1 ∷ core 0 ∷ [])
    (Begun ∷ Inside ∷ Plain ∷ (Aborted 6) ∷ []) 0x1 0x0 0x6 0x1
unfolding has_carry has_parity has_adjust has_zero has_sign has_overflow flags_of signed_at disp_at base_at
    mem_at operand_at head_at modrm_at op_at insn_at decoding_of alu_row row_40 row_80 row_A0 row_C0 one_byte
    two_byte behind_f3 address_of read_of pair_of op_load load_of bit_value signed_value overflows logic_flags
    alu_value alu_flags inc_dec_value inc_dec_flags sum_flags difference_flags alu_of bit_of cmpxchg_of fallback_of
    exchange_of control_of move_of effect_of unary_of bare_of done_of finish_of value_of put_of fetched load_at
    outside_of inside_of rule_fallback_of
a_locked_store_hits_at_once = as_computed _ _ _ _ _ _ _ _ _ (refl, refl, refl, refl, refl)

-- mov dword [1000h], 1; xbegin; xabort 1; mov eax, [1040h]: the store is pending all along
xbegin_does_not_wait :
    RowIs 1 (0xC7 ∷ 0x05 ∷ 0x00 ∷ 0x10 ∷ 0x00 ∷ 0x00 ∷ 0x01 ∷ 0x00 ∷ 0x00 ∷ 0x00 ∷ 0xC7 ∷ 0xF8 ∷ 0x03 ∷ 0x00 ∷
    0x00 ∷ 0x00 ∷ 0xC6 ∷ 0xF8 ∷ 0x01 ∷ 0xA1 ∷ 0x40 ∷ 0x10 ∷ 0x00 ∷ 0x00 ∷ []) 0x100
    (core 0 ∷ core 0 ∷ core 0 ∷ core 0 ∷ [])
    (Plain ∷ Begun ∷ (Aborted 0x1000001) ∷ Plain ∷ []) 0x0 0x0 0x0 0x1
unfolding has_carry has_parity has_adjust has_zero has_sign has_overflow flags_of signed_at disp_at base_at
    mem_at operand_at head_at modrm_at op_at insn_at decoding_of alu_row row_40 row_80 row_A0 row_C0 one_byte
    two_byte behind_f3 address_of read_of pair_of op_load load_of bit_value signed_value overflows logic_flags
    alu_value alu_flags inc_dec_value inc_dec_flags sum_flags difference_flags alu_of bit_of cmpxchg_of fallback_of
    exchange_of control_of move_of effect_of unary_of bare_of done_of finish_of value_of put_of fetched load_at
    outside_of inside_of rule_fallback_of
xbegin_does_not_wait = as_computed _ _ _ _ _ _ _ _ _ (refl, refl, refl, refl, refl)

-- the same on both cores, with each other's place: two zeros
an_aborted_transaction_is_no_fence :
    RowIs 1 (0xC7 ∷ 0x05 ∷ 0x00 ∷ 0x10 ∷ 0x00 ∷ 0x00 ∷ 0x01 ∷ 0x00 ∷ 0x00 ∷ 0x00 ∷ 0xC7 ∷ 0xF8 ∷ 0x03 ∷ 0x00 ∷
    0x00 ∷ 0x00 ∷ 0xC6 ∷ 0xF8 ∷ 0x01 ∷ 0xA1 ∷ 0x40 ∷ 0x10 ∷ 0x00 ∷ 0x00 ∷ 0xC7 ∷ 0x05 ∷ 0x40 ∷ 0x10 ∷
    0x00 ∷ 0x00 ∷ 0x01 ∷ 0x00 ∷ 0x00 ∷ 0x00 ∷ 0xC7 ∷ 0xF8 ∷ 0x03 ∷ 0x00 ∷ 0x00 ∷ 0x00 ∷ 0xC6 ∷ 0xF8 ∷
    0x01 ∷ 0xA1 ∷ 0x00 ∷ 0x10 ∷ 0x00 ∷ 0x00 ∷ []) 0x118
    (core 0 ∷ core 1 ∷ core 0 ∷ core 0 ∷ core 0 ∷ core 1 ∷ core 1 ∷ core 1 ∷ [])
    (Plain ∷ Plain ∷ Begun ∷ (Aborted 0x1000001) ∷ Plain ∷ Begun ∷ (Aborted 0x1000001) ∷ Plain ∷ []) 0x0 0x0 0x0 0x0
unfolding has_carry has_parity has_adjust has_zero has_sign has_overflow flags_of signed_at disp_at base_at
    mem_at operand_at head_at modrm_at op_at insn_at decoding_of alu_row row_40 row_80 row_A0 row_C0 one_byte
    two_byte behind_f3 address_of read_of pair_of op_load load_of bit_value signed_value overflows logic_flags
    alu_value alu_flags inc_dec_value inc_dec_flags sum_flags difference_flags alu_of bit_of cmpxchg_of fallback_of
    exchange_of control_of move_of effect_of unary_of bare_of done_of finish_of value_of put_of fetched load_at
    outside_of inside_of rule_fallback_of
an_aborted_transaction_is_no_fence = as_computed _ _ _ _ _ _ _ _ _ (refl, refl, refl, refl, refl)

-- mov dword [1000h], 1; xbegin; xend: a committed transaction is a fence
a_commit_waits :
    RowIs 1 (0xC7 ∷ 0x05 ∷ 0x00 ∷ 0x10 ∷ 0x00 ∷ 0x00 ∷ 0x01 ∷ 0x00 ∷ 0x00 ∷ 0x00 ∷ 0xC7 ∷ 0xF8 ∷ 0x03 ∷ 0x00 ∷
    0x00 ∷ 0x00 ∷ 0x0F ∷ 0x01 ∷ 0xD5 ∷ 0xA1 ∷ 0x40 ∷ 0x10 ∷ 0x00 ∷ 0x00 ∷ []) 0x100
    (core 0 ∷ core 0 ∷ core 0 ∷ core 0 ∷ core 0 ∷ [])
    (Plain ∷ Begun ∷ Drained ∷ Committed ∷ Plain ∷ []) 0x1 0x0 0x0 0x1
unfolding has_carry has_parity has_adjust has_zero has_sign has_overflow flags_of signed_at disp_at base_at
    mem_at operand_at head_at modrm_at op_at insn_at decoding_of alu_row row_40 row_80 row_A0 row_C0 one_byte
    two_byte behind_f3 address_of read_of pair_of op_load load_of bit_value signed_value overflows logic_flags
    alu_value alu_flags inc_dec_value inc_dec_flags sum_flags difference_flags alu_of bit_of cmpxchg_of fallback_of
    exchange_of control_of move_of effect_of unary_of bare_of done_of finish_of value_of put_of fetched load_at
    outside_of inside_of rule_fallback_of
a_commit_waits = as_computed _ _ _ _ _ _ _ _ _ (refl, refl, refl, refl, refl)

-- mov dword [1000h], 1; xbegin; mov eax, [1000h]; xend, drained while the transaction is open
the_body_sees_what_is_pending :
    RowIs 1 (0xC7 ∷ 0x05 ∷ 0x00 ∷ 0x10 ∷ 0x00 ∷ 0x00 ∷ 0x01 ∷ 0x00 ∷ 0x00 ∷ 0x00 ∷ 0xC7 ∷ 0xF8 ∷ 0x08 ∷ 0x00 ∷
    0x00 ∷ 0x00 ∷ 0xA1 ∷ 0x00 ∷ 0x10 ∷ 0x00 ∷ 0x00 ∷ 0x0F ∷ 0x01 ∷ 0xD5 ∷ []) 0x100
    (core 0 ∷ core 0 ∷ core 0 ∷ drain 0 ∷ core 0 ∷ [])
    (Plain ∷ Begun ∷ Inside ∷ Drained ∷ Committed ∷ []) 0x1 0x0 0x1 0x1
unfolding has_carry has_parity has_adjust has_zero has_sign has_overflow flags_of signed_at disp_at base_at
    mem_at operand_at head_at modrm_at op_at insn_at decoding_of alu_row row_40 row_80 row_A0 row_C0 one_byte
    two_byte behind_f3 address_of read_of pair_of op_load load_of bit_value signed_value overflows logic_flags
    alu_value alu_flags inc_dec_value inc_dec_flags sum_flags difference_flags alu_of bit_of cmpxchg_of fallback_of
    exchange_of control_of move_of effect_of unary_of bare_of done_of finish_of value_of put_of fetched load_at
    outside_of inside_of rule_fallback_of
the_body_sees_what_is_pending = as_computed _ _ _ _ _ _ _ _ _ (refl, refl, refl, refl, refl)

-- mov dword [1000h], 1; xbegin; an interrupt; HLT
an_interrupt_leaves_what_is_pending :
    RowIs 1 (0xC7 ∷ 0x05 ∷ 0x00 ∷ 0x10 ∷ 0x00 ∷ 0x00 ∷ 0x01 ∷ 0x00 ∷ 0x00 ∷ 0x00 ∷ 0xC7 ∷ 0xF8 ∷ 0x00 ∷ 0x00 ∷
    0x00 ∷ 0x00 ∷ 0xF4 ∷ []) 0x100
    (core 0 ∷ core 0 ∷ interrupt 0 ∷ core 0 ∷ core 0 ∷ [])
    (Plain ∷ Begun ∷ (AbortedBy by.Interrupt 0) ∷ Drained ∷ (Stopped why.Halt) ∷ []) 0x1 0x0 0x0 0x1
unfolding has_carry has_parity has_adjust has_zero has_sign has_overflow flags_of signed_at disp_at base_at
    mem_at operand_at head_at modrm_at op_at insn_at decoding_of alu_row row_40 row_80 row_A0 row_C0 one_byte
    two_byte behind_f3 address_of read_of pair_of op_load load_of bit_value signed_value overflows logic_flags
    alu_value alu_flags inc_dec_value inc_dec_flags sum_flags difference_flags alu_of bit_of cmpxchg_of fallback_of
    exchange_of control_of move_of effect_of unary_of bare_of done_of finish_of value_of put_of fetched load_at
    outside_of inside_of rule_fallback_of
an_interrupt_leaves_what_is_pending = as_computed _ _ _ _ _ _ _ _ _ (refl, refl, refl, refl, refl)

-- a drain where nothing is pending
a_drain_of_nothing_is_a_step :
    RowIs 1 (0xC7 ∷ 0x05 ∷ 0x00 ∷ 0x10 ∷ 0x00 ∷ 0x00 ∷ 0x01 ∷ 0x00 ∷ 0x00 ∷ 0x00 ∷ []) 0x100
    (drain 0 ∷ [])
    (Plain ∷ []) 0x0 0x0 0x0 0x1
unfolding has_carry has_parity has_adjust has_zero has_sign has_overflow flags_of signed_at disp_at base_at
    mem_at operand_at head_at modrm_at op_at insn_at decoding_of alu_row row_40 row_80 row_A0 row_C0 one_byte
    two_byte behind_f3 address_of read_of pair_of op_load load_of bit_value signed_value overflows logic_flags
    alu_value alu_flags inc_dec_value inc_dec_flags sum_flags difference_flags alu_of bit_of cmpxchg_of fallback_of
    exchange_of control_of move_of effect_of unary_of bare_of done_of finish_of value_of put_of fetched load_at
    outside_of inside_of rule_fallback_of
a_drain_of_nothing_is_a_step = as_computed _ _ _ _ _ _ _ _ _ (refl, refl, refl, refl, refl)
