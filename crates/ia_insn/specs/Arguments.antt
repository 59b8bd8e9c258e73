-- The operands of an instruction in the order in which SDM volume 2 lists them, with what is done to each (the table
-- "Instruction Operand Encoding" of each page), and which of them have a spelling.
use Rattle.std.specs.Prelude.{◌≡◌, ℕ, ◌^◌, Bool, true, not, List, length, Option, Some, None, nat_lt}
use Rattle.std.specs.Prelude.{◌&&◌}
use Rattle.ia_word.specs.declared.width.Width.TheVariants.{B, D}
use Rattle.ia_insn.specs.declared.op.Op.{Op}
use Rattle.ia_insn.specs.declared.op.Op.TheVariants as op
use Rattle.ia_insn.specs.declared.operand.Operand.{Operand}
use Rattle.ia_insn.specs.declared.operand.Operand.TheVariants.{Reg, Imm}
use Rattle.ia_insn.specs.declared.argument.Role.{Role}
use Rattle.ia_insn.specs.declared.argument.Role.TheVariants.{Read, Written, Changed, Named}
use Rattle.ia_insn.specs.declared.argument.Argument.{Argument}
use Rattle.ia_insn.specs.declared.argument.Argument.TheVariants as is
use Rattle.ia_insn.specs.declared.argument.Arguments.{Arguments}
use Rattle.ia_insn.specs.Spelling.{is_place}
use Rattle.ia_insn.specs.Writing.{fits_mem, fits_operand}
use Rattle.ia_insn.specs.Encoding.{fits_imm, fits_short, fits_count, encodable}
use Rattle.ia_insn.specs.Operations.{alu_role, bit_role, unary_role, exchange_role}

-- ---- what is done to an operand, by kind

-- ---- the operands

abbrev pub no_operands : Arguments
no_operands = record { first = None; second = None; third = None }

abbrev pub one : Argument → Arguments
one x = record { first = Some x; second = None; third = None }

abbrev pub two : Argument → Argument → Arguments
two x y = record { first = Some x; second = Some y; third = None }

abbrev pub three : Argument → Argument → Argument → Arguments
three x y z = record { first = Some x; second = Some y; third = Some z }

-- r32
abbrev pub r32 : Role → ℕ → Argument
r32 role register = is.Operand role D (Reg register)

-- r/m32
abbrev pub rm32 : Role → Operand → Argument
rm32 role operand = is.Operand role D operand

abbrev pub operands_of : Op → Arguments
operands_of (op.Alu kind width to from) = two (is.Operand (alu_role kind) width to) (is.Source width from)
operands_of (op.Mov width to from) = two (is.Operand Written width to) (is.Source width from)
operands_of (op.Lea register place) = two (r32 Written register) (is.Address place)
operands_of (op.Xchg width operand register) =
    two (is.Operand Changed width operand) (is.Operand Changed width (Reg register))
operands_of (op.IncDec kind width operand) = one (is.Operand Changed width operand)
operands_of (op.Test width to from) = two (is.Operand Read width to) (is.Source width from)
operands_of (op.Unary kind operand) = one (rm32 (unary_role kind) operand)
operands_of (op.Imul register operand) = two (r32 Changed register) (rm32 Read operand)
operands_of (op.ImulImm register operand n) = three (r32 Written register) (rm32 Read operand) (is.Source D (Imm n))
operands_of (op.Shift kind operand amount) = two (rm32 Changed operand) (is.Count amount)
operands_of (op.Push operand) = one (is.Source D operand)
operands_of (op.Pop operand) = one (rm32 Written operand)
operands_of (op.Call distance) = one (is.Near 5 distance)
operands_of (op.CallTo operand) = one (rm32 Read operand)
operands_of op.Ret = no_operands
operands_of (op.RetPop n) = one (is.Half n)
operands_of (op.Jmp distance) = one (is.Near 5 distance)
operands_of (op.JmpShort distance) = one (is.Short distance)
operands_of (op.JmpTo operand) = one (rm32 Read operand)
operands_of (op.Jcc condition distance) = one (is.Near 6 distance)
operands_of (op.JccShort condition distance) = one (is.Short distance)
operands_of (op.Setcc condition operand) = one (is.Operand Written B operand)
operands_of (op.Cmovcc condition register operand) = two (r32 Changed register) (rm32 Read operand)
operands_of (op.LoopJump kind distance) = one (is.Short distance)
operands_of (op.Extend kind register operand) = two (r32 Written register) (is.Operand Read B operand)
operands_of (op.Exchange kind operand register) = two (rm32 Changed operand) (r32 (exchange_role kind) register)
operands_of (op.Bit kind operand n) = two (rm32 (bit_role kind) operand) (is.Byte n)
operands_of op.Nop = no_operands
operands_of (op.NopOf operand) = one (rm32 Named operand)
operands_of (op.Bare kind) = no_operands
operands_of (op.Xbegin distance) = one (is.Near 6 distance)
operands_of (op.Xabort n) = one (is.Byte n)

-- ---- which of them have a spelling

abbrev pub fits_argument : Argument → Bool
fits_argument (is.Operand role width operand) = fits_operand operand
fits_argument (is.Source width (Imm n)) = fits_imm width n
fits_argument (is.Source width operand) = fits_operand operand
fits_argument (is.Address place) = fits_mem place
fits_argument (is.Count amount) = fits_count amount
fits_argument (is.Byte n) = nat_lt n (2 ^ 8)
fits_argument (is.Half n) = nat_lt n (2 ^ 16)
fits_argument (is.Near long distance) = nat_lt distance (2 ^ 32)
fits_argument (is.Short distance) = fits_short distance

abbrev pub fits_where_there : Option Argument → Bool
fits_where_there None = true
fits_where_there (Some x) = fits_argument x

abbrev pub all_fit : Arguments → Bool
all_fit x = fits_where_there x.first && fits_where_there x.second && fits_where_there x.third

-- one of two operands at most is in memory, and of TEST not the second
abbrev pub may_meet : Op → Bool
may_meet (op.Alu kind width to from) = not (is_place to && is_place from)
may_meet (op.Mov width to from) = not (is_place to && is_place from)
may_meet (op.Test width to from) = not (is_place from)
may_meet _ = true

-- an instruction has a spelling where each of its operands fits, and they may stand together
abbrev pub IsByOperands : Op → Type 0
IsByOperands i = encodable i ≡ (all_fit (operands_of i) && may_meet i)

-- ---- how long an instruction with a distance is

-- the bytes end where the distance counts from
abbrev pub EndsAfter : List ℕ → Option Argument → Type 0
EndsAfter bytes (Some (is.Near long distance)) = length bytes ≡ long
EndsAfter bytes (Some (is.Short distance)) = length bytes ≡ 2
EndsAfter bytes _ = Unit {0}
