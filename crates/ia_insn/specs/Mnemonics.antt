-- The names of instructions, in lower case, by which they are printed and read (SDM volume 2, the page of each).
use Rattle.std.specs.Prelude.{ℕ, List, [], ◌++◌, codes}
use Rattle.ia_word.specs.declared.operation.UnaryOp.{UnaryOp}
use Rattle.ia_word.specs.declared.operation.UnaryOp.TheVariants as unary
use Rattle.ia_insn.specs.declared.op.Op.{Op}
use Rattle.ia_insn.specs.declared.op.Op.TheVariants as op
use Rattle.ia_insn.specs.declared.mnemonic.Mnemonic.{Mnemonic}
use Rattle.ia_insn.specs.declared.mnemonic.Mnemonic.TheVariants as name
use Rattle.ia_insn.specs.Operations.{alu_name, inc_dec_name, unary_name, shift_name, loop_name, extend_name}
use Rattle.ia_insn.specs.Operations.{exchange_name, bit_name, bare_name, condition_name}

-- IMUL has one name for all of its forms
abbrev pub unary_mnemonic : UnaryOp → Mnemonic
unary_mnemonic unary.Imul = name.Imul
unary_mnemonic kind = name.Unary kind

-- whose name an operation has
abbrev pub mnemonic_of : Op → Mnemonic
mnemonic_of (op.Alu kind width to from) = name.Alu kind
mnemonic_of (op.Mov width to from) = name.Mov
mnemonic_of (op.Lea register place) = name.Lea
mnemonic_of (op.Xchg width operand register) = name.Xchg
mnemonic_of (op.IncDec kind width operand) = name.IncDec kind
mnemonic_of (op.Test width left right) = name.Test
mnemonic_of (op.Unary kind operand) = unary_mnemonic kind
mnemonic_of (op.Imul register operand) = name.Imul
mnemonic_of (op.ImulImm register operand number) = name.Imul
mnemonic_of (op.Shift kind operand amount) = name.Shift kind
mnemonic_of (op.Push operand) = name.Push
mnemonic_of (op.Pop operand) = name.Pop
mnemonic_of (op.Call distance) = name.Call
mnemonic_of (op.CallTo operand) = name.Call
mnemonic_of op.Ret = name.Ret
mnemonic_of (op.RetPop number) = name.Ret
mnemonic_of (op.Jmp distance) = name.Jmp
mnemonic_of (op.JmpShort distance) = name.Jmp
mnemonic_of (op.JmpTo operand) = name.Jmp
mnemonic_of (op.Jcc kind distance) = name.Jcc kind
mnemonic_of (op.JccShort kind distance) = name.Jcc kind
mnemonic_of (op.Setcc kind operand) = name.Setcc kind
mnemonic_of (op.Cmovcc kind register operand) = name.Cmovcc kind
mnemonic_of (op.LoopJump kind distance) = name.LoopJump kind
mnemonic_of (op.Extend kind register operand) = name.Extend kind
mnemonic_of (op.Exchange kind operand register) = name.Exchange kind
mnemonic_of (op.Bit kind operand number) = name.Bit kind
mnemonic_of op.Nop = name.Nop
mnemonic_of (op.NopOf operand) = name.Nop
mnemonic_of (op.Bare kind) = name.Bare kind
mnemonic_of (op.Xbegin distance) = name.Xbegin
mnemonic_of (op.Xabort number) = name.Xabort

-- ---- names

-- a name up to its condition
abbrev pub stem : Mnemonic → List ℕ
stem (name.Alu kind) = alu_name kind
stem name.Mov = codes "mov"
stem name.Lea = codes "lea"
stem name.Xchg = codes "xchg"
stem (name.IncDec kind) = inc_dec_name kind
stem name.Test = codes "test"
stem (name.Unary kind) = unary_name kind
stem name.Imul = codes "imul"
stem (name.Shift kind) = shift_name kind
stem name.Push = codes "push"
stem name.Pop = codes "pop"
stem name.Call = codes "call"
stem name.Ret = codes "ret"
stem name.Jmp = codes "jmp"
stem (name.Jcc kind) = codes "j"
stem (name.Setcc kind) = codes "set"
stem (name.Cmovcc kind) = codes "cmov"
stem (name.LoopJump kind) = loop_name kind
stem (name.Extend kind) = extend_name kind
stem (name.Exchange kind) = exchange_name kind
stem (name.Bit kind) = bit_name kind
stem name.Nop = codes "nop"
stem (name.Bare kind) = bare_name kind
stem name.Xbegin = codes "xbegin"
stem name.Xabort = codes "xabort"

abbrev pub condition : Mnemonic → List ℕ
condition (name.Jcc kind) = condition_name kind
condition (name.Setcc kind) = condition_name kind
condition (name.Cmovcc kind) = condition_name kind
condition _ = []

-- the name that is printed
abbrev pub name_of : Mnemonic → List ℕ
name_of mnemonic = stem mnemonic ++ condition mnemonic

-- ---- what names stand for
