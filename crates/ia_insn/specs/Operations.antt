-- What is said of the kinds of operations that share a shape: the number by which each is spelt, its name, and what it
-- does to its operands (SDM volume 2, the page of each; volume 2D, appendix A, "Opcode Map").
use Rattle.std.specs.Prelude.{ℕ, List, [], ◌∷◌, codes, if◌then◌else◌}
use Rattle.ia_word.specs.declared.condition.Condition.{Condition}
use Rattle.ia_word.specs.declared.condition.Condition.TheVariants as is
use Rattle.ia_word.specs.declared.operation.AluOp.{AluOp}
use Rattle.ia_word.specs.declared.operation.AluOp.TheVariants as alu
use Rattle.ia_word.specs.declared.operation.ShiftOp.{ShiftOp}
use Rattle.ia_word.specs.declared.operation.ShiftOp.TheVariants as shift
use Rattle.ia_word.specs.declared.operation.BitOp.{BitOp}
use Rattle.ia_word.specs.declared.operation.BitOp.TheVariants as bit
use Rattle.ia_word.specs.declared.operation.UnaryOp.{UnaryOp}
use Rattle.ia_word.specs.declared.operation.UnaryOp.TheVariants as unary
use Rattle.ia_word.specs.declared.operation.IncDecOp.{IncDecOp}
use Rattle.ia_word.specs.declared.operation.IncDecOp.TheVariants as inc_dec
use Rattle.ia_word.specs.declared.operation.ExtendOp.{ExtendOp}
use Rattle.ia_word.specs.declared.operation.ExtendOp.TheVariants as extend
use Rattle.ia_word.specs.declared.operation.ExchangeOp.{ExchangeOp}
use Rattle.ia_word.specs.declared.operation.ExchangeOp.TheVariants as exchange
use Rattle.ia_word.specs.declared.operation.LoopOp.{LoopOp}
use Rattle.ia_word.specs.declared.operation.LoopOp.TheVariants as loop
use Rattle.ia_word.specs.declared.operation.BareOp.{BareOp}
use Rattle.ia_word.specs.declared.operation.BareOp.TheVariants as bare
use Rattle.ia_insn.specs.declared.argument.Role.{Role}
use Rattle.ia_insn.specs.declared.argument.Role.TheVariants.{Read, Changed}
use Rattle.ia_insn.specs.declared.mnemonic.Mnemonic.{Mnemonic}
use Rattle.ia_insn.specs.declared.mnemonic.Mnemonic.TheVariants as name
use Rattle.ia_insn.specs.Spelling.{writes_destination, sets_bit}

-- ---- numbers

abbrev pub alu_number : AluOp → ℕ
alu_number alu.Add = 0
alu_number alu.Or = 1
alu_number alu.Adc = 2
alu_number alu.Sbb = 3
alu_number alu.And = 4
alu_number alu.Sub = 5
alu_number alu.Xor = 6
alu_number alu.Cmp = 7

abbrev pub shift_number : ShiftOp → ℕ
shift_number shift.Rol = 0
shift_number shift.Ror = 1
shift_number shift.Shl = 4
shift_number shift.Shr = 5
shift_number shift.Sar = 7

abbrev pub bit_number : BitOp → ℕ
bit_number bit.Bt = 4
bit_number bit.Bts = 5
bit_number bit.Btr = 6
bit_number bit.Btc = 7

abbrev pub unary_number : UnaryOp → ℕ
unary_number unary.Not = 2
unary_number unary.Neg = 3
unary_number unary.Mul = 4
unary_number unary.Imul = 5
unary_number unary.Div = 6
unary_number unary.Idiv = 7

abbrev pub inc_dec_number : IncDecOp → ℕ
inc_dec_number inc_dec.Inc = 0
inc_dec_number inc_dec.Dec = 1

-- behind 0F
abbrev pub extend_opcode : ExtendOp → ℕ
extend_opcode extend.Zero = 0xB6
extend_opcode extend.Sign = 0xBE

-- behind 0F
abbrev pub exchange_opcode : ExchangeOp → ℕ
exchange_opcode exchange.Compare = 0xB1
exchange_opcode exchange.Add = 0xC1

abbrev pub loop_opcode : LoopOp → ℕ
loop_opcode loop.Loop = 0xE2
loop_opcode loop.Ecx = 0xE3

unfoldable pub bare_bytes : BareOp → List ℕ
bare_bytes bare.Leave = 0xC9 ∷ []
bare_bytes bare.Cdq = 0x99 ∷ []
bare_bytes bare.Cwde = 0x98 ∷ []
bare_bytes bare.Clc = 0xF8 ∷ []
bare_bytes bare.Stc = 0xF9 ∷ []
bare_bytes bare.Cmc = 0xF5 ∷ []
bare_bytes bare.Pause = 0xF3 ∷ 0x90 ∷ []
bare_bytes bare.Hlt = 0xF4 ∷ []
bare_bytes bare.Int3 = 0xCC ∷ []
bare_bytes bare.Ud2 = 0x0F ∷ 0x0B ∷ []
bare_bytes bare.Cpuid = 0x0F ∷ 0xA2 ∷ []
bare_bytes bare.Lfence = 0x0F ∷ 0xAE ∷ 0xE8 ∷ []
bare_bytes bare.Mfence = 0x0F ∷ 0xAE ∷ 0xF0 ∷ []
bare_bytes bare.Sfence = 0x0F ∷ 0xAE ∷ 0xF8 ∷ []
bare_bytes bare.Xend = 0x0F ∷ 0x01 ∷ 0xD5 ∷ []
bare_bytes bare.Xtest = 0x0F ∷ 0x01 ∷ 0xD6 ∷ []

-- ---- names

abbrev pub alu_name : AluOp → List ℕ
alu_name alu.Add = codes "add"
alu_name alu.Or = codes "or"
alu_name alu.Adc = codes "adc"
alu_name alu.Sbb = codes "sbb"
alu_name alu.And = codes "and"
alu_name alu.Sub = codes "sub"
alu_name alu.Xor = codes "xor"
alu_name alu.Cmp = codes "cmp"

abbrev pub inc_dec_name : IncDecOp → List ℕ
inc_dec_name inc_dec.Inc = codes "inc"
inc_dec_name inc_dec.Dec = codes "dec"

abbrev pub unary_name : UnaryOp → List ℕ
unary_name unary.Not = codes "not"
unary_name unary.Neg = codes "neg"
unary_name unary.Mul = codes "mul"
unary_name unary.Imul = codes "imul"
unary_name unary.Div = codes "div"
unary_name unary.Idiv = codes "idiv"

abbrev pub shift_name : ShiftOp → List ℕ
shift_name shift.Rol = codes "rol"
shift_name shift.Ror = codes "ror"
shift_name shift.Shl = codes "shl"
shift_name shift.Shr = codes "shr"
shift_name shift.Sar = codes "sar"

abbrev pub loop_name : LoopOp → List ℕ
loop_name loop.Loop = codes "loop"
loop_name loop.Ecx = codes "jecxz"

abbrev pub extend_name : ExtendOp → List ℕ
extend_name extend.Zero = codes "movzx"
extend_name extend.Sign = codes "movsx"

abbrev pub exchange_name : ExchangeOp → List ℕ
exchange_name exchange.Compare = codes "cmpxchg"
exchange_name exchange.Add = codes "xadd"

abbrev pub bit_name : BitOp → List ℕ
bit_name bit.Bt = codes "bt"
bit_name bit.Bts = codes "bts"
bit_name bit.Btr = codes "btr"
bit_name bit.Btc = codes "btc"

abbrev pub bare_name : BareOp → List ℕ
bare_name bare.Leave = codes "leave"
bare_name bare.Cdq = codes "cdq"
bare_name bare.Cwde = codes "cwde"
bare_name bare.Clc = codes "clc"
bare_name bare.Stc = codes "stc"
bare_name bare.Cmc = codes "cmc"
bare_name bare.Pause = codes "pause"
bare_name bare.Hlt = codes "hlt"
bare_name bare.Int3 = codes "int3"
bare_name bare.Ud2 = codes "ud2"
bare_name bare.Cpuid = codes "cpuid"
bare_name bare.Lfence = codes "lfence"
bare_name bare.Mfence = codes "mfence"
bare_name bare.Sfence = codes "sfence"
bare_name bare.Xend = codes "xend"
bare_name bare.Xtest = codes "xtest"

-- the name of a condition that is printed (SDM volume 2, Jcc)
abbrev pub condition_name : Condition → List ℕ
condition_name is.Overflow = codes "o"
condition_name is.NotOverflow = codes "no"
condition_name is.Below = codes "b"
condition_name is.AboveOrEqual = codes "ae"
condition_name is.Equal = codes "e"
condition_name is.NotEqual = codes "ne"
condition_name is.BelowOrEqual = codes "be"
condition_name is.Above = codes "a"
condition_name is.Sign = codes "s"
condition_name is.NotSign = codes "ns"
condition_name is.ParityEven = codes "p"
condition_name is.ParityOdd = codes "np"
condition_name is.Less = codes "l"
condition_name is.GreaterOrEqual = codes "ge"
condition_name is.LessOrEqual = codes "le"
condition_name is.Greater = codes "g"

-- ---- what is done to an operand

abbrev pub alu_role : AluOp → Role
alu_role kind = if writes_destination kind then Changed else Read

abbrev pub bit_role : BitOp → Role
bit_role kind = if sets_bit kind then Changed else Read

abbrev pub unary_role : UnaryOp → Role
unary_role unary.Not = Changed
unary_role unary.Neg = Changed
unary_role _ = Read

-- to the register
abbrev pub exchange_role : ExchangeOp → Role
exchange_role exchange.Compare = Read
exchange_role exchange.Add = Changed

-- ---- the names that there are

-- all names without a condition, in four parts
unfoldable pub arithmetic : List Mnemonic
arithmetic =
    name.Alu alu.Add ∷ name.Alu alu.Sub ∷ name.Alu alu.Cmp ∷ name.Alu alu.And ∷ name.Alu alu.Or ∷ name.Alu alu.Xor
    ∷ name.Alu alu.Adc ∷ name.Alu alu.Sbb ∷ name.IncDec inc_dec.Inc ∷ name.IncDec inc_dec.Dec ∷ name.Imul
    ∷ name.Unary unary.Not ∷ name.Unary unary.Neg ∷ name.Unary unary.Mul ∷ name.Unary unary.Div
    ∷ name.Unary unary.Idiv ∷ []

unfoldable pub moves : List Mnemonic
moves =
    name.Mov ∷ name.Lea ∷ name.Test ∷ name.Push ∷ name.Pop ∷ name.Extend extend.Zero ∷ name.Extend extend.Sign
    ∷ name.Shift shift.Rol ∷ name.Shift shift.Ror ∷ name.Shift shift.Shl ∷ name.Shift shift.Shr
    ∷ name.Shift shift.Sar ∷ name.Xchg ∷ name.Exchange exchange.Compare ∷ name.Exchange exchange.Add ∷ []

unfoldable pub jumps : List Mnemonic
jumps =
    name.Jmp ∷ name.Call ∷ name.Ret ∷ name.LoopJump loop.Loop ∷ name.LoopJump loop.Ecx ∷ name.Xbegin ∷ name.Xabort
    ∷ name.Nop ∷ name.Bit bit.Bt ∷ name.Bit bit.Bts ∷ name.Bit bit.Btr ∷ name.Bit bit.Btc ∷ []

unfoldable pub bare_names : List Mnemonic
bare_names =
    name.Bare bare.Leave ∷ name.Bare bare.Cdq ∷ name.Bare bare.Cwde ∷ name.Bare bare.Clc ∷ name.Bare bare.Stc
    ∷ name.Bare bare.Cmc ∷ name.Bare bare.Pause ∷ name.Bare bare.Hlt ∷ name.Bare bare.Int3 ∷ name.Bare bare.Ud2
    ∷ name.Bare bare.Cpuid ∷ name.Bare bare.Lfence ∷ name.Bare bare.Mfence ∷ name.Bare bare.Sfence
    ∷ name.Bare bare.Xend ∷ name.Bare bare.Xtest ∷ []

unfoldable pub conditions : List Condition
conditions =
    is.Overflow ∷ is.NotOverflow ∷ is.Below ∷ is.AboveOrEqual ∷ is.Equal ∷ is.NotEqual ∷ is.BelowOrEqual ∷ is.Above
    ∷ is.Sign ∷ is.NotSign ∷ is.ParityEven ∷ is.ParityOdd ∷ is.Less ∷ is.GreaterOrEqual ∷ is.LessOrEqual
    ∷ is.Greater ∷ []

-- names that are read and never printed
unfoldable pub other_names : List (List ℕ × Mnemonic)
other_names = (codes "sal", name.Shift shift.Shl) ∷ []

unfoldable pub other_conditions : List (List ℕ × Condition)
other_conditions =
    (codes "c", is.Below) ∷ (codes "nae", is.Below) ∷ (codes "nb", is.AboveOrEqual) ∷ (codes "nc", is.AboveOrEqual)
    ∷ (codes "z", is.Equal) ∷ (codes "nz", is.NotEqual) ∷ (codes "na", is.BelowOrEqual) ∷ (codes "nbe", is.Above)
    ∷ (codes "pe", is.ParityEven) ∷ (codes "po", is.ParityOdd) ∷ (codes "nge", is.Less)
    ∷ (codes "nl", is.GreaterOrEqual) ∷ (codes "ng", is.LessOrEqual) ∷ (codes "nle", is.Greater) ∷ []
