-- The one spelling of an instruction that is written, and which instructions have one.
use Rattle.std.specs.Prelude.{ℕ, ◌+◌, ◌*◌, ◌%◌, ◌^◌, Bool, true, false, not, List, [], ◌∷◌, ◌++◌, if◌then◌else◌}
use Rattle.std.specs.Prelude.{nat_lt, ◌==◌, ◌&&◌, ◌||◌}
use Rattle.ia_word.specs.declared.operation.AluOp.{AluOp}
use Rattle.ia_word.specs.declared.operation.ShiftOp.{ShiftOp}
use Rattle.ia_word.specs.Bytes.{long_bytes}
use Rattle.ia_insn.specs.declared.kinds.Count.{Count}
use Rattle.ia_insn.specs.declared.kinds.Count.TheVariants as count
use Rattle.ia_word.specs.declared.operation.IncDecOp.{IncDecOp}
use Rattle.ia_word.specs.declared.width.Width.{Width}
use Rattle.ia_word.specs.declared.width.Width.TheVariants.{B, D}
use Rattle.ia_word.specs.Condition.{condition_number}
use Rattle.ia_insn.specs.declared.op.Op.{Op}
use Rattle.ia_insn.specs.declared.op.Op.TheVariants as op
use Rattle.ia_insn.specs.declared.op.Insn.{Insn}
use Rattle.ia_insn.specs.declared.operand.Operand.{Operand}
use Rattle.ia_insn.specs.declared.operand.Operand.TheVariants.{Reg, Imm, Mem as Memory}
use Rattle.ia_insn.specs.Operands.{word}
use Rattle.ia_insn.specs.Spelling.{lockable}
use Rattle.ia_insn.specs.Writing.{fits_mem, fits_operand, is_signed_byte, operand_bytes}
use Rattle.ia_insn.specs.Operations.{alu_number, shift_number, bit_number, unary_number, inc_dec_number, extend_opcode}
use Rattle.ia_insn.specs.Operations.{exchange_opcode, loop_opcode, bare_bytes}

-- 0 at bytes, 1 at doublewords
abbrev pub width_bit : Width → ℕ
width_bit B = 0
width_bit D = 1

-- ---- which instructions have a spelling

abbrev pub fits_imm : Width → ℕ → Bool
fits_imm B n = nat_lt n 256
fits_imm D n = nat_lt n (2 ^ 32)

abbrev pub fits_short : ℕ → Bool
fits_short n = nat_lt n (2 ^ 32) && is_signed_byte n

-- m,r or r,m or m,imm
abbrev pub fits_pair : Width → Operand → Operand → Bool
fits_pair width to (Reg from) = fits_operand to && nat_lt from 8
fits_pair width (Reg to) (Memory operand) = nat_lt to 8 && fits_mem operand
fits_pair width (Memory n) (Memory operand) = false
fits_pair width (Imm n) (Memory operand) = false
fits_pair width to (Imm n) = fits_operand to && fits_imm width n

-- m,r or m,imm
abbrev pub fits_test : Width → Operand → Operand → Bool
fits_test width to (Reg from) = fits_operand to && nat_lt from 8
fits_test width to (Memory operand) = false
fits_test width to (Imm n) = fits_operand to && fits_imm width n

abbrev pub fits_count : Count → Bool
fits_count (count.Imm n) = nat_lt n 256
fits_count count.Cl = true

abbrev pub encodable : Op → Bool
encodable (op.Alu kind width to from) = fits_pair width to from
encodable (op.Mov width to from) = fits_pair width to from
encodable (op.Lea register operand) = nat_lt register 8 && fits_mem operand
encodable (op.Xchg width operand register) = fits_operand operand && nat_lt register 8
encodable (op.IncDec kind width operand) = fits_operand operand
encodable (op.Test width to from) = fits_test width to from
encodable (op.Unary kind operand) = fits_operand operand
encodable (op.Imul register operand) = nat_lt register 8 && fits_operand operand
encodable (op.ImulImm register operand n) = nat_lt register 8 && fits_operand operand && nat_lt n (2 ^ 32)
encodable (op.Shift kind operand amount) = fits_operand operand && fits_count amount
encodable (op.Push (Imm n)) = nat_lt n (2 ^ 32)
encodable (op.Push operand) = fits_operand operand
encodable (op.Pop operand) = fits_operand operand
encodable (op.Call distance) = nat_lt distance (2 ^ 32)
encodable (op.CallTo operand) = fits_operand operand
encodable op.Ret = true
encodable (op.RetPop n) = nat_lt n (2 ^ 16)
encodable (op.Jmp distance) = nat_lt distance (2 ^ 32)
encodable (op.JmpShort distance) = fits_short distance
encodable (op.JmpTo operand) = fits_operand operand
encodable (op.Jcc condition distance) = nat_lt distance (2 ^ 32)
encodable (op.JccShort condition distance) = fits_short distance
encodable (op.Setcc condition operand) = fits_operand operand
encodable (op.Cmovcc condition register operand) = nat_lt register 8 && fits_operand operand
encodable (op.LoopJump kind distance) = fits_short distance
encodable (op.Extend kind register operand) = nat_lt register 8 && fits_operand operand
encodable (op.Exchange kind operand register) = fits_operand operand && nat_lt register 8
encodable (op.Bit kind operand n) = fits_operand operand && nat_lt n 256
encodable op.Nop = true
encodable (op.NopOf operand) = fits_operand operand
encodable (op.Bare kind) = true
encodable (op.Xbegin distance) = nat_lt distance (2 ^ 32)
encodable (op.Xabort n) = nat_lt n 256

-- ---- bytes

abbrev pub imm_bytes : Width → ℕ → List ℕ
imm_bytes B n = n ∷ []
imm_bytes D n = long_bytes n

-- one form where the number is a sign-extended byte and need not be wide, and another else
abbrev pub by_size : Bool → ℕ → List ℕ → List ℕ → List ℕ
by_size wide n short other = if not wide && is_signed_byte n then short ++ (n % 256) ∷ [] else other ++ long_bytes n

-- the register of an operand
abbrev pub register_of : Operand → ℕ
register_of (Reg register) = register
register_of _ = 0

unfoldable pub alu_bytes : Bool → Bool → AluOp → Width → Operand → Operand → List ℕ
alu_bytes number place kind width to (Reg from) = (8 * alu_number kind + width_bit width) ∷ operand_bytes place from to
alu_bytes number place kind width to (Memory operand) =
    (8 * alu_number kind + 2 + width_bit width) ∷ operand_bytes place (register_of to) (Memory operand)
alu_bytes number place kind B to (Imm n) = 0x80 ∷ (operand_bytes place (alu_number kind) to ++ n ∷ [])
alu_bytes number place kind D to (Imm n) =
    by_size number n (0x83 ∷ operand_bytes place (alu_number kind) to) (0x81 ∷ operand_bytes place (alu_number kind) to)

unfoldable pub mov_bytes : Bool → Width → Operand → Operand → List ℕ
mov_bytes place width to (Reg from) = (0x88 + width_bit width) ∷ operand_bytes place from to
mov_bytes place width to (Memory operand) =
    (0x8A + width_bit width) ∷ operand_bytes place (register_of to) (Memory operand)
mov_bytes place width (Reg to) (Imm n) = (0xB0 + 8 * width_bit width + to) ∷ imm_bytes width n
mov_bytes place width (Memory operand) (Imm n) =
    (0xC6 + width_bit width) ∷ (operand_bytes place 0 (Memory operand) ++ imm_bytes width n)
mov_bytes place width (Imm m) (Imm n) = []

unfoldable pub test_bytes : Bool → Width → Operand → Operand → List ℕ
test_bytes place width to (Reg from) = (0x84 + width_bit width) ∷ operand_bytes place from to
test_bytes place width to (Memory operand) = []
test_bytes place width to (Imm n) = (0xF6 + width_bit width) ∷ (operand_bytes place 0 to ++ imm_bytes width n)

-- r32: 40 + r or 48 + r; else FF or FE, /n
unfoldable pub inc_dec_bytes : Bool → IncDecOp → Width → Operand → List ℕ
inc_dec_bytes place kind D (Reg register) = (0x40 + 8 * inc_dec_number kind + register) ∷ []
inc_dec_bytes place kind D operand = 0xFF ∷ operand_bytes place (inc_dec_number kind) operand
inc_dec_bytes place kind B operand = 0xFE ∷ operand_bytes place (inc_dec_number kind) operand

unfoldable pub shift_bytes : Bool → Bool → ShiftOp → Operand → Count → List ℕ
shift_bytes number place kind operand count.Cl = 0xD3 ∷ operand_bytes place (shift_number kind) operand
shift_bytes number place kind operand (count.Imm n) =
    if not number && n == 1 then 0xD1 ∷ operand_bytes place (shift_number kind) operand
    else 0xC1 ∷ (operand_bytes place (shift_number kind) operand ++ n ∷ [])

unfoldable pub push_bytes : Bool → Bool → Operand → List ℕ
push_bytes number place (Reg register) = (0x50 + register) ∷ []
push_bytes number place (Memory operand) = 0xFF ∷ operand_bytes place 6 (Memory operand)
push_bytes number place (Imm n) = by_size number n (0x6A ∷ []) (0x68 ∷ [])

unfoldable pub pop_bytes : Bool → Operand → List ℕ
pop_bytes place (Reg register) = (0x58 + register) ∷ []
pop_bytes place operand = 0x8F ∷ operand_bytes place 0 operand

unfoldable pub op_bytes : Bool → Bool → Op → List ℕ
op_bytes number place (op.Alu kind width to from) = alu_bytes number place kind width to from
op_bytes number place (op.Mov width to from) = mov_bytes place width to from
op_bytes number place (op.Lea register operand) = 0x8D ∷ operand_bytes place register (Memory operand)
op_bytes number place (op.Xchg width operand register) = (0x86 + width_bit width) ∷ operand_bytes place register operand
op_bytes number place (op.IncDec kind width operand) = inc_dec_bytes place kind width operand
op_bytes number place (op.Test width to from) = test_bytes place width to from
op_bytes number place (op.Unary kind operand) = 0xF7 ∷ operand_bytes place (unary_number kind) operand
op_bytes number place (op.Imul register operand) = 0x0F ∷ 0xAF ∷ operand_bytes place register operand
op_bytes number place (op.ImulImm register operand n) =
    by_size number n (0x6B ∷ operand_bytes place register operand) (0x69 ∷ operand_bytes place register operand)
op_bytes number place (op.Shift kind operand amount) = shift_bytes number place kind operand amount
op_bytes number place (op.Push operand) = push_bytes number place operand
op_bytes number place (op.Pop operand) = pop_bytes place operand
op_bytes number place (op.Call distance) = 0xE8 ∷ long_bytes distance
op_bytes number place (op.CallTo operand) = 0xFF ∷ operand_bytes place 2 operand
op_bytes number place op.Ret = 0xC3 ∷ []
op_bytes number place (op.RetPop n) = 0xC2 ∷ word n
op_bytes number place (op.Jmp distance) = 0xE9 ∷ long_bytes distance
op_bytes number place (op.JmpShort distance) = 0xEB ∷ (distance % 256) ∷ []
op_bytes number place (op.JmpTo operand) = 0xFF ∷ operand_bytes place 4 operand
op_bytes number place (op.Jcc condition distance) = 0x0F ∷ (0x80 + condition_number condition) ∷ long_bytes distance
op_bytes number place (op.JccShort condition distance) = (0x70 + condition_number condition) ∷ (distance % 256) ∷ []
op_bytes number place (op.Setcc condition operand) =
    0x0F ∷ (0x90 + condition_number condition) ∷ operand_bytes place 0 operand
op_bytes number place (op.Cmovcc condition register operand) =
    0x0F ∷ (0x40 + condition_number condition) ∷ operand_bytes place register operand
op_bytes number place (op.LoopJump kind distance) = loop_opcode kind ∷ (distance % 256) ∷ []
op_bytes number place (op.Extend kind register operand) =
    0x0F ∷ extend_opcode kind ∷ operand_bytes place register operand
op_bytes number place (op.Exchange kind operand register) =
    0x0F ∷ exchange_opcode kind ∷ operand_bytes place register operand
op_bytes number place (op.Bit kind operand n) = 0x0F ∷ 0xBA ∷ (operand_bytes place (bit_number kind) operand ++ n ∷ [])
op_bytes number place op.Nop = 0x90 ∷ []
op_bytes number place (op.NopOf operand) = 0x0F ∷ 0x1F ∷ operand_bytes place 0 operand
op_bytes number place (op.Bare kind) = bare_bytes kind
op_bytes number place (op.Xbegin distance) = 0xC7 ∷ 0xF8 ∷ long_bytes distance
op_bytes number place (op.Xabort n) = 0xC6 ∷ 0xF8 ∷ n ∷ []

abbrev pub is_encodable : Insn → Bool
is_encodable insn = encodable insn.op && (not insn.lock || lockable insn.op)

-- the bytes of an instruction whose immediate, or displacement, is held at 32 bits where there is such a form
abbrev pub insn_bytes_with : Bool → Bool → Insn → List ℕ
insn_bytes_with number place insn =
    if insn.lock then 0xF0 ∷ op_bytes number place insn.op else op_bytes number place insn.op

-- the one spelling that is written where nothing is wide
abbrev pub insn_bytes : Insn → List ℕ
insn_bytes insn = insn_bytes_with false false insn
