-- The opcode maps: one row an opcode, to be laid beside the opcode column of the page that is named in front of it
-- (SDM volumes 2A to 2D). A row says what follows the opcode and which instruction it then is.
use Rattle.std.specs.Prelude.{ℕ, ◌+◌, ◌-◌, ◌/◌, ◌%◌, ◌<◌, List, [], ◌∷◌, Option, Some, None, if◌then◌else◌, nat_lt}
use Rattle.std.specs.Prelude.{nat_le, ◌==◌, ◌&&◌, slice_index_or, option_map}
use Rattle.ia_word.specs.declared.operation.AluOp.{AluOp}
use Rattle.ia_word.specs.declared.operation.AluOp.TheVariants as alu
use Rattle.ia_word.specs.declared.operation.ShiftOp.{ShiftOp}
use Rattle.ia_word.specs.declared.operation.ShiftOp.TheVariants as shift
use Rattle.ia_insn.specs.declared.kinds.Count.TheVariants as count
use Rattle.ia_word.specs.declared.operation.BitOp.{BitOp}
use Rattle.ia_word.specs.declared.operation.BitOp.TheVariants as bit
use Rattle.ia_word.specs.declared.operation.UnaryOp.TheVariants as unary
use Rattle.ia_word.specs.declared.operation.IncDecOp.{IncDecOp}
use Rattle.ia_word.specs.declared.operation.IncDecOp.TheVariants as inc_dec
use Rattle.ia_word.specs.declared.operation.ExtendOp.TheVariants as extend
use Rattle.ia_word.specs.declared.operation.ExchangeOp.TheVariants as exchange
use Rattle.ia_word.specs.declared.operation.LoopOp.TheVariants as loop
use Rattle.ia_word.specs.declared.operation.BareOp.{BareOp}
use Rattle.ia_word.specs.declared.operation.BareOp.TheVariants as bare
use Rattle.ia_word.specs.declared.width.Width.TheVariants.{B, D}
use Rattle.ia_word.specs.Condition.{condition_of}
use Rattle.ia_word.specs.Register.{EAX}
use Rattle.ia_insn.specs.declared.op.Op.{Op}
use Rattle.ia_insn.specs.declared.op.Op.TheVariants as op
use Rattle.ia_insn.specs.declared.operand.Operand.{Operand}
use Rattle.ia_insn.specs.declared.operand.Operand.TheVariants.{Reg, Imm, Mem as Memory}
use Rattle.ia_insn.specs.Form.{Tail, done, ib, ibs, iw, id, Form, none, plain, modrm, group, r_memory, SpellsForm}

-- ---- operands of a row

-- m,r: the ModRM operand, then the register
abbrev pub m_r : (Operand → ℕ → Op) → Form
m_r f = modrm (λ r m. done (f m r))

-- r,m
abbrev pub r_m : (ℕ → Operand → Op) → Form
r_m f = modrm (λ r m. done (f r m))

-- /0 to /7
abbrev pub digit : (ℕ → Option (Operand → Tail)) → Form
digit f = group (λ h. f h.reg)

-- /n
abbrev pub only : ℕ → (Operand → Tail) → Form
only n f = group (λ h. if h.reg == n then Some f else None)

-- m and no immediate
abbrev pub no_imm : (Operand → Op) → Operand → Tail
no_imm f m = done (f m)

abbrev pub eax : Operand
eax = Reg EAX

-- [id]
abbrev pub at : ℕ → Operand
at n = Memory (record { base = None; index = None; scale = 1; disp = n })

-- ---- operations by number

abbrev pub alu_of : ℕ → AluOp
alu_of number = slice_index_or (
    alu.Add ∷ alu.Or ∷ alu.Adc ∷ alu.Sbb ∷ alu.And ∷ alu.Sub ∷ alu.Xor ∷ alu.Cmp ∷ []) number alu.Add

-- /0 /1 /4 /5 /7
abbrev pub shift_of : ℕ → Option ShiftOp
shift_of number = slice_index_or (
    Some shift.Rol ∷ Some shift.Ror ∷ None ∷ None ∷
    Some shift.Shl ∷ Some shift.Shr ∷ None ∷ Some shift.Sar ∷ []) number None

-- /4 to /7
abbrev pub bit_of : ℕ → Option BitOp
bit_of number = slice_index_or (
    None ∷ None ∷ None ∷ None ∷
    Some bit.Bt ∷ Some bit.Bts ∷ Some bit.Btr ∷ Some bit.Btc ∷ []) number None

-- /0 /1
abbrev pub inc_dec_of : ℕ → Option IncDecOp
inc_dec_of number = slice_index_or (Some inc_dec.Inc ∷ Some inc_dec.Dec ∷ []) number None

-- /5 to /7
abbrev pub fence_of : ℕ → Option BareOp
fence_of number = slice_index_or (
    None ∷ None ∷ None ∷ None ∷ None ∷
    Some bare.Lfence ∷ Some bare.Mfence ∷ Some bare.Sfence ∷ []) number None

-- ---- rows

-- the opcodes from first on, so many, each with its form by the distance to first
pub record OpcodeRow : Type 0 where
  pub first : ℕ
  pub many : ℕ
  pub form : ℕ → Form

abbrev pub row : ℕ → Form → OpcodeRow
row b f = record { first = b; many = 1; form = λ _. f }

abbrev pub rows : ℕ → ℕ → (ℕ → Form) → OpcodeRow
rows b n f = record { first = b; many = n; form = f }

abbrev pub look_up : List OpcodeRow → ℕ → Form
look_up [] b = none
look_up (r ∷ rs) b = if nat_le r.first b && nat_lt b (r.first + r.many) then r.form (b - r.first) else look_up rs b

-- ---- the map of one-byte opcodes

-- 8n to 8n+5. SDM vol. 2A "ADC—Add With Carry", "ADD—Add", "AND—Logical AND", "CMP—Compare Two Operands"; vol. 2B
-- "OR—Logical Inclusive OR", "SBB—Integer Subtraction With Borrow", "SUB—Subtract"; vol. 2D "XOR—Logical Exclusive OR"
abbrev pub alu_rows : AluOp → List OpcodeRow
alu_rows k =
    row 0 (m_r (λ m r. op.Alu k B m (Reg r))) ∷
    row 1 (m_r (λ m r. op.Alu k D m (Reg r))) ∷
    row 2 (r_m (λ r m. op.Alu k B (Reg r) m)) ∷
    row 3 (r_m (λ r m. op.Alu k D (Reg r) m)) ∷
    row 4 (plain (ib (λ n. op.Alu k B eax (Imm n)))) ∷
    row 5 (plain (id (λ n. op.Alu k D eax (Imm n)))) ∷ []

unfoldable pub alu_row : AluOp → ℕ → Form
alu_row k b = look_up (alu_rows k) b

-- F7 /n. SDM vol. 2B "TEST—Logical Compare", "NOT—One's Complement Negation", "NEG—Two's Complement Negation",
-- "MUL—Unsigned Multiply"; vol. 2A "IMUL—Signed Multiply", "DIV—Unsigned Divide", "IDIV—Signed Divide"
abbrev pub unary_of : ℕ → Option (Operand → Tail)
unary_of n = slice_index_or (
    Some (λ m. id (λ i. op.Test D m (Imm i))) ∷
    None ∷
    Some (λ m. done (op.Unary unary.Not m)) ∷
    Some (λ m. done (op.Unary unary.Neg m)) ∷
    Some (λ m. done (op.Unary unary.Mul m)) ∷
    Some (λ m. done (op.Unary unary.Imul m)) ∷
    Some (λ m. done (op.Unary unary.Div m)) ∷
    Some (λ m. done (op.Unary unary.Idiv m)) ∷ []) n None

-- FF /n. SDM vol. 2A "INC—Increment by 1", "DEC—Decrement by 1", "CALL—Call Procedure", "JMP—Jump"; vol. 2B
-- "PUSH—Push Word, Doubleword, or Quadword Onto the Stack"
abbrev pub ff_of : ℕ → Option (Operand → Tail)
ff_of n = slice_index_or (
    Some (λ m. done (op.IncDec inc_dec.Inc D m)) ∷
    Some (λ m. done (op.IncDec inc_dec.Dec D m)) ∷
    Some (λ m. done (op.CallTo m)) ∷
    None ∷
    Some (λ m. done (op.JmpTo m)) ∷
    None ∷
    Some (λ m. done (op.Push m)) ∷ []) n None

-- C6 and C7: /0, or mod 3 /7 rm 0 (the byte F8) in front of x
abbrev pub mov_or : (Operand → Tail) → Tail → Form
mov_or f x =
    group (λ h. if h.reg == 0 then Some f else if h.mode == 3 && h.reg == 7 && h.rm == 0 then Some (λ m. x) else None)

abbrev pub rows_40 : List OpcodeRow
rows_40 =
    -- vol. 2A "INC—Increment by 1", "DEC—Decrement by 1"
    rows 0x40 8 (λ r. plain (done (op.IncDec inc_dec.Inc D (Reg r)))) ∷
    rows 0x48 8 (λ r. plain (done (op.IncDec inc_dec.Dec D (Reg r)))) ∷
    -- vol. 2B "PUSH—Push Word, Doubleword, or Quadword Onto the Stack", "POP—Pop a Value From the Stack"
    rows 0x50 8 (λ r. plain (done (op.Push (Reg r)))) ∷
    rows 0x58 8 (λ r. plain (done (op.Pop (Reg r)))) ∷
    -- vol. 2B "PUSH—Push Word, Doubleword, or Quadword Onto the Stack"; vol. 2A "IMUL—Signed Multiply"
    row 0x68 (plain (id (λ n. op.Push (Imm n)))) ∷
    row 0x69 (modrm (λ r m. id (λ n. op.ImulImm r m n))) ∷
    row 0x6A (plain (ibs (λ n. op.Push (Imm n)))) ∷
    row 0x6B (modrm (λ r m. ibs (λ n. op.ImulImm r m n))) ∷
    -- vol. 2A "Jcc—Jump if Condition Is Met"
    rows 0x70 16 (λ c. plain (ibs (λ n. op.JccShort (condition_of c) n))) ∷ []

unfoldable pub row_40 : ℕ → Form
row_40 b = look_up rows_40 b

abbrev pub rows_80 : List OpcodeRow
rows_80 =
    -- /n as in alu_of: the pages of the opcodes 8n to 8n+5
    row 0x80 (modrm (λ n m. ib (λ i. op.Alu (alu_of n) B m (Imm i)))) ∷
    row 0x81 (modrm (λ n m. id (λ i. op.Alu (alu_of n) D m (Imm i)))) ∷
    row 0x83 (modrm (λ n m. ibs (λ i. op.Alu (alu_of n) D m (Imm i)))) ∷
    -- vol. 2B "TEST—Logical Compare"
    row 0x84 (m_r (λ m r. op.Test B m (Reg r))) ∷
    row 0x85 (m_r (λ m r. op.Test D m (Reg r))) ∷
    -- vol. 2D "XCHG—Exchange Register/Memory With Register"
    row 0x86 (m_r (λ m r. op.Xchg B m r)) ∷
    row 0x87 (m_r (λ m r. op.Xchg D m r)) ∷
    -- vol. 2B "MOV—Move"
    row 0x88 (m_r (λ m r. op.Mov B m (Reg r))) ∷
    row 0x89 (m_r (λ m r. op.Mov D m (Reg r))) ∷
    row 0x8A (r_m (λ r m. op.Mov B (Reg r) m)) ∷
    row 0x8B (r_m (λ r m. op.Mov D (Reg r) m)) ∷
    -- vol. 2A "LEA—Load Effective Address"
    row 0x8D (r_memory (λ r m. op.Lea r m)) ∷
    -- vol. 2B "POP—Pop a Value From the Stack"
    row 0x8F (only 0 (no_imm (λ m. op.Pop m))) ∷
    -- vol. 2B "NOP—No Operation"; vol. 2D "XCHG—Exchange Register/Memory With Register"
    row 0x90 (plain (done op.Nop)) ∷
    rows 0x91 7 (λ r. plain (done (op.Xchg D (Reg (r + 1)) EAX))) ∷
    -- vol. 2A "CBW/CWDE/CDQE—Convert Byte to Word/Convert Word to Doubleword/Convert Doubleword to Quadword",
    -- "CWD/CDQ/CQO—Convert Word to Doubleword/Convert Doubleword to Quadword"
    row 0x98 (plain (done (op.Bare bare.Cwde))) ∷
    row 0x99 (plain (done (op.Bare bare.Cdq))) ∷ []

unfoldable pub row_80 : ℕ → Form
row_80 b = look_up rows_80 b

abbrev pub rows_A0 : List OpcodeRow
rows_A0 =
    -- vol. 2B "MOV—Move"
    row 0xA0 (plain (id (λ n. op.Mov B eax (at n)))) ∷
    row 0xA1 (plain (id (λ n. op.Mov D eax (at n)))) ∷
    row 0xA2 (plain (id (λ n. op.Mov B (at n) eax))) ∷
    row 0xA3 (plain (id (λ n. op.Mov D (at n) eax))) ∷
    -- vol. 2B "TEST—Logical Compare"
    row 0xA8 (plain (ib (λ n. op.Test B eax (Imm n)))) ∷
    row 0xA9 (plain (id (λ n. op.Test D eax (Imm n)))) ∷
    -- vol. 2B "MOV—Move"
    rows 0xB0 8 (λ r. plain (ib (λ n. op.Mov B (Reg r) (Imm n)))) ∷
    rows 0xB8 8 (λ r. plain (id (λ n. op.Mov D (Reg r) (Imm n)))) ∷ []

unfoldable pub row_A0 : ℕ → Form
row_A0 b = look_up rows_A0 b

abbrev pub rows_C0 : List OpcodeRow
rows_C0 =
    -- vol. 2B "RCL/RCR/ROL/ROR—Rotate", "SAL/SAR/SHL/SHR—Shift"
    row 0xC1 (digit (λ n. option_map (λ k m. ib (λ i. op.Shift k m (count.Imm i))) (shift_of n))) ∷
    -- vol. 2B "RET—Return From Procedure"
    row 0xC2 (plain (iw (λ n. op.RetPop n))) ∷
    row 0xC3 (plain (done op.Ret)) ∷
    -- vol. 2B "MOV—Move"; vol. 2D "XABORT—Transactional Abort", "XBEGIN—Transactional Begin"
    row 0xC6 (mov_or (λ m. ib (λ i. op.Mov B m (Imm i))) (ib (λ i. op.Xabort i))) ∷
    row 0xC7 (mov_or (λ m. id (λ i. op.Mov D m (Imm i))) (id (λ i. op.Xbegin i))) ∷
    -- vol. 2A "LEAVE—High Level Procedure Exit", "INT n/INTO/INT3/INT1—Call to Interrupt Procedure"
    row 0xC9 (plain (done (op.Bare bare.Leave))) ∷
    row 0xCC (plain (done (op.Bare bare.Int3))) ∷
    -- vol. 2B "RCL/RCR/ROL/ROR—Rotate", "SAL/SAR/SHL/SHR—Shift"
    row 0xD1 (digit (λ n. option_map (λ k m. done (op.Shift k m (count.Imm 1))) (shift_of n))) ∷
    row 0xD3 (digit (λ n. option_map (λ k m. done (op.Shift k m count.Cl)) (shift_of n))) ∷
    -- vol. 2A "LOOP/LOOPcc—Loop According to ECX Counter", "Jcc—Jump if Condition Is Met" (JECXZ)
    row 0xE2 (plain (ibs (λ n. op.LoopJump loop.Loop n))) ∷
    row 0xE3 (plain (ibs (λ n. op.LoopJump loop.Ecx n))) ∷
    -- vol. 2A "CALL—Call Procedure", "JMP—Jump"
    row 0xE8 (plain (id (λ n. op.Call n))) ∷
    row 0xE9 (plain (id (λ n. op.Jmp n))) ∷
    row 0xEB (plain (ibs (λ n. op.JmpShort n))) ∷
    -- vol. 2A "HLT—Halt", "CMC—Complement Carry Flag"
    row 0xF4 (plain (done (op.Bare bare.Hlt))) ∷
    row 0xF5 (plain (done (op.Bare bare.Cmc))) ∷
    -- vol. 2B "TEST—Logical Compare", and the pages of unary_of
    row 0xF6 (only 0 (λ m. ib (λ i. op.Test B m (Imm i)))) ∷
    row 0xF7 (digit unary_of) ∷
    -- vol. 2A "CLC—Clear Carry Flag"; vol. 2B "STC—Set Carry Flag"
    row 0xF8 (plain (done (op.Bare bare.Clc))) ∷
    row 0xF9 (plain (done (op.Bare bare.Stc))) ∷
    -- vol. 2A "INC—Increment by 1", "DEC—Decrement by 1", and the pages of ff_of
    row 0xFE (digit (λ n. option_map (λ k m. done (op.IncDec k B m)) (inc_dec_of n))) ∷
    row 0xFF (digit ff_of) ∷ []

unfoldable pub row_C0 : ℕ → Form
row_C0 b = look_up rows_C0 b

unfoldable pub one_byte : ℕ → Form
one_byte b =
    if nat_lt b 0x40 then alu_row (alu_of (b / 8)) (b % 8)
    else if nat_lt b 0x80 then row_40 b
    else if nat_lt b 0xA0 then row_80 b
    else if nat_lt b 0xC0 then row_A0 b
    else row_C0 b

-- ---- the map behind 0F

abbrev pub two_byte_rows : List OpcodeRow
two_byte_rows =
    -- vol. 2D "XEND—Transactional End", "XTEST—Test if in Transactional Execution": the bytes D5 and D6
    row 0x01 (group (λ h.
    if h.mode == 3 && h.reg == 2 && h.rm == 5 then Some (no_imm (λ m. op.Bare bare.Xend))
    else if h.mode == 3 && h.reg == 2 && h.rm == 6 then Some (no_imm (λ m. op.Bare bare.Xtest))
    else None)) ∷
    -- vol. 2B "UD—Undefined Instruction", "NOP—No Operation"
    row 0x0B (plain (done (op.Bare bare.Ud2))) ∷
    row 0x1F (only 0 (no_imm (λ m. op.NopOf m))) ∷
    -- vol. 2A "CMOVcc—Conditional Move", "Jcc—Jump if Condition Is Met"; vol. 2B "SETcc—Set Byte on Condition"
    rows 0x40 16 (λ c. r_m (λ r m. op.Cmovcc (condition_of c) r m)) ∷
    rows 0x80 16 (λ c. plain (id (λ n. op.Jcc (condition_of c) n))) ∷
    rows 0x90 16 (λ c. only 0 (no_imm (λ m. op.Setcc (condition_of c) m))) ∷
    -- vol. 2A "CPUID—CPU Identification"
    row 0xA2 (plain (done (op.Bare bare.Cpuid))) ∷
    -- vol. 2A "LFENCE—Load Fence"; vol. 2B "MFENCE—Memory Fence", "SFENCE—Store Fence": the bytes E8, F0 and F8
    row 0xAE (group (λ h.
    if h.mode == 3 && h.rm == 0 then option_map (λ k m. done (op.Bare k)) (fence_of h.reg) else None)) ∷
    -- vol. 2A "IMUL—Signed Multiply", "CMPXCHG—Compare and Exchange"; vol. 2B "MOVZX—Move With Zero-Extend"
    row 0xAF (r_m (λ r m. op.Imul r m)) ∷
    row 0xB1 (m_r (λ m r. op.Exchange exchange.Compare m r)) ∷
    row 0xB6 (r_m (λ r m. op.Extend extend.Zero r m)) ∷
    -- vol. 2A "BT—Bit Test", "BTS—Bit Test and Set", "BTR—Bit Test and Reset", "BTC—Bit Test and Complement"
    row 0xBA (digit (λ n. option_map (λ k m. ib (λ i. op.Bit k m i)) (bit_of n))) ∷
    -- vol. 2B "MOVSX/MOVSXD—Move With Sign-Extension"; vol. 2D "XADD—Exchange and Add"
    row 0xBE (r_m (λ r m. op.Extend extend.Sign r m)) ∷
    row 0xC1 (m_r (λ m r. op.Exchange exchange.Add m r)) ∷ []

unfoldable pub two_byte : ℕ → Form
two_byte b = look_up two_byte_rows b

-- ---- whole instructions

-- F3 90. SDM vol. 2B "PAUSE—Spin Loop Hint"
unfoldable pub behind_f3 : ℕ → Form
behind_f3 b = look_up (row 0x90 (plain (done (op.Bare bare.Pause))) ∷ []) b

-- the bytes of an instruction without F0: an opcode of one byte, or one behind 0F (SDM vol. 2A, "Opcode Maps"), or
-- behind F3
pub data SpellsOp : List ℕ → Op → Type 0 where
  one : {b : ℕ} {bytes : List ℕ} {i : Op} → b < 256 → SpellsForm (one_byte b) bytes i → SpellsOp (b ∷ bytes) i
  two : {b : ℕ} {bytes : List ℕ} {i : Op} → b < 256 → SpellsForm (two_byte b) bytes i → SpellsOp (0x0F ∷ b ∷ bytes) i
  with_f3 : {b : ℕ} {bytes : List ℕ} {i : Op} → b < 256 → SpellsForm (behind_f3 b) bytes i
      → SpellsOp (0xF3 ∷ b ∷ bytes) i
