-- The forms of instructions: which operands a mnemonic takes (SDM volume 2, the page of each instruction). Numbers and
-- displacements stand as 0.
use Rattle.std.specs.Prelude.{ℕ, Bool, true, false, Option, Some, None, option_map, ◌==◌, if◌then◌else◌}
use Rattle.ia_word.specs.declared.operation.BareOp.{BareOp}
use Rattle.ia_word.specs.declared.operation.ShiftOp.{ShiftOp}
use Rattle.ia_word.specs.declared.operation.UnaryOp.TheVariants as unary
use Rattle.ia_word.specs.declared.condition.Condition.{Condition}
use Rattle.ia_word.specs.declared.width.Width.{Width}
use Rattle.ia_word.specs.declared.width.Width.TheVariants.{B, D}
use Rattle.ia_insn.specs.declared.kinds.Count.TheVariants as count
use Rattle.ia_insn.specs.declared.op.Op.{Op}
use Rattle.ia_insn.specs.declared.op.Op.TheVariants as op
use Rattle.ia_insn.specs.declared.op.Insn.{Insn}
use Rattle.ia_insn.specs.declared.operand.Operand.{Operand}
use Rattle.ia_insn.specs.declared.operand.Operand.TheVariants.{Reg, Imm, Mem as Memory}
use Rattle.ia_insn.specs.Encoding.{is_encodable}
use Rattle.ia_insn.specs.declared.mnemonic.Mnemonic.{Mnemonic}
use Rattle.ia_insn.specs.declared.mnemonic.Mnemonic.TheVariants as name
use Rattle.ia_form.specs.declared.shape.OperandShape.{OperandShape}
use Rattle.ia_form.specs.declared.shape.OperandShape.TheVariants.{Register, Memory as InMemory, Number, Near, Short}
use Rattle.ia_form.specs.declared.shape.OperandShapes.{OperandShapes}
use Rattle.ia_form.specs.declared.shape.OperandShapes.TheVariants.{Nothing, One, Two, Three}

abbrev pub same_width : Width → Width → Bool
same_width B B = true
same_width D D = true
same_width _ _ = false

abbrev pub of_width : Width → Width → Operand → Option Operand
of_width w v o = if same_width w v then Some o else None

-- a register or a place of this width; a place may have no size word
abbrev pub target : Width → OperandShape → Option Operand
target w (Register v r) = of_width w v (Reg r)
target w (InMemory None m) = Some (Memory m)
target w (InMemory (Some v) m) = of_width w v (Memory m)
target w _ = None

-- one register or place of this width
abbrev pub one_operand : Width → OperandShapes → Option Operand
one_operand w (One s) = target w s
one_operand w _ = None

-- one register or place, which says its width
abbrev pub sized_operand : OperandShapes → Option (Width × Operand)
sized_operand (One (Register w r)) = Some (w, Reg r)
sized_operand (One (InMemory (Some w) m)) = Some (w, Memory m)
sized_operand _ = None

-- a destination and a source, at least one of which says the width
abbrev pub pair : OperandShapes → Option (Width × Operand × Operand)
pair (Two (Register w r) Number) = Some (w, Reg r, Imm 0)
pair (Two (InMemory (Some w) m) Number) = Some (w, Memory m, Imm 0)
pair (Two (Register w r) s) = option_map (λ o. (w, Reg r, o)) (target w s)
pair (Two t (Register w r)) = option_map (λ o. (w, o, Reg r)) (target w t)
pair _ = None

-- a register and a place in either order
abbrev pub test_form : OperandShapes → Option (Width × Operand × Operand)
test_form (Two (Register w r) (InMemory s m)) = option_map (λ o. (w, o, Reg r)) (target w (InMemory s m))
test_form s = pair s

abbrev pub xchg_form : OperandShapes → Option (Width × Operand × ℕ)
xchg_form (Two (Register w r) (InMemory s m)) = option_map (λ o. (w, o, r)) (target w (InMemory s m))
xchg_form (Two t (Register w r)) = option_map (λ o. (w, o, r)) (target w t)
xchg_form _ = None

-- a register of 32 bits, and a source of this width
abbrev pub load_form : Width → OperandShapes → Option (ℕ × Operand)
load_form w (Two (Register D r) s) = option_map (λ o. (r, o)) (target w s)
load_form w _ = None

-- a destination of 32 bits and a register
abbrev pub store_form : OperandShapes → Option (Operand × ℕ)
store_form (Two t (Register D r)) = option_map (λ o. (o, r)) (target D t)
store_form _ = None

-- a destination of 32 bits and a number
abbrev pub number_form : OperandShapes → Option Operand
number_form (Two t Number) = target D t
number_form _ = None

-- by a number or by CL
abbrev pub shift_form : ShiftOp → OperandShapes → Option Op
shift_form k (Two t Number) = option_map (λ o. op.Shift k o (count.Imm 0)) (target D t)
shift_form k (Two t (Register B r)) = if r == 1 then option_map (λ o. op.Shift k o count.Cl) (target D t) else None
shift_form k _ = None

abbrev pub lea_form : OperandShapes → Option Op
lea_form (Two (Register D r) (InMemory None m)) = Some (op.Lea r m)
lea_form _ = None

abbrev pub imul_form : OperandShapes → Option Op
imul_form (One s) = option_map (λ o. op.Unary unary.Imul o) (target D s)
imul_form (Two (Register D r) Number) = Some (op.ImulImm r (Reg r) 0)
imul_form (Two (Register D r) s) = option_map (λ o. op.Imul r o) (target D s)
imul_form (Three (Register D r) s Number) = option_map (λ o. op.ImulImm r o 0) (target D s)
imul_form _ = None

abbrev pub push_form : OperandShapes → Option Op
push_form (One Number) = Some (op.Push (Imm 0))
push_form s = option_map op.Push (one_operand D s)

abbrev pub call_form : OperandShapes → Option Op
call_form (One Number) = Some (op.Call 0)
call_form (One Near) = Some (op.Call 0)
call_form s = option_map op.CallTo (one_operand D s)

abbrev pub ret_form : OperandShapes → Option Op
ret_form Nothing = Some op.Ret
ret_form (One Number) = Some (op.RetPop 0)
ret_form _ = None

abbrev pub jmp_form : OperandShapes → Option Op
jmp_form (One Number) = Some (op.Jmp 0)
jmp_form (One Near) = Some (op.Jmp 0)
jmp_form (One Short) = Some (op.JmpShort 0)
jmp_form s = option_map op.JmpTo (one_operand D s)

abbrev pub jcc_form : Condition → OperandShapes → Option Op
jcc_form c (One Number) = Some (op.Jcc c 0)
jcc_form c (One Near) = Some (op.Jcc c 0)
jcc_form c (One Short) = Some (op.JccShort c 0)
jcc_form c _ = None

abbrev pub nop_form : OperandShapes → Option Op
nop_form Nothing = Some op.Nop
nop_form s = option_map op.NopOf (one_operand D s)

-- an operation with one number
abbrev pub with_number : Op → OperandShapes → Option Op
with_number o (One Number) = Some o
with_number o _ = None

-- an operation without operands
abbrev pub no_operands : BareOp → OperandShapes → Option Op
no_operands k Nothing = Some (op.Bare k)
no_operands k _ = None

-- the operation that a mnemonic and operands of these shapes write
unfoldable pub op_of : Mnemonic → OperandShapes → Option Op
op_of (name.Alu k) s = option_map (λ p. op.Alu k p.0 p.1 p.2) (pair s)
op_of name.Mov s = option_map (λ p. op.Mov p.0 p.1 p.2) (pair s)
op_of name.Lea s = lea_form s
op_of name.Xchg s = option_map (λ p. op.Xchg p.0 p.1 p.2) (xchg_form s)
op_of (name.IncDec k) s = option_map (λ p. op.IncDec k p.0 p.1) (sized_operand s)
op_of name.Test s = option_map (λ p. op.Test p.0 p.1 p.2) (test_form s)
op_of (name.Unary k) s = option_map (λ o. op.Unary k o) (one_operand D s)
op_of name.Imul s = imul_form s
op_of (name.Shift k) s = shift_form k s
op_of name.Push s = push_form s
op_of name.Pop s = option_map op.Pop (one_operand D s)
op_of name.Call s = call_form s
op_of name.Ret s = ret_form s
op_of name.Jmp s = jmp_form s
op_of (name.Jcc c) s = jcc_form c s
op_of (name.Setcc c) s = option_map (λ o. op.Setcc c o) (one_operand B s)
op_of (name.Cmovcc c) s = option_map (λ p. op.Cmovcc c p.0 p.1) (load_form D s)
op_of (name.LoopJump k) s = with_number (op.LoopJump k 0) s
op_of (name.Extend k) s = option_map (λ p. op.Extend k p.0 p.1) (load_form B s)
op_of (name.Exchange k) s = option_map (λ p. op.Exchange k p.0 p.1) (store_form s)
op_of (name.Bit k) s = option_map (λ o. op.Bit k o 0) (number_form s)
op_of name.Nop s = nop_form s
op_of name.Xbegin s = with_number (op.Xbegin 0) s
op_of name.Xabort s = with_number (op.Xabort 0) s
op_of (name.Bare k) s = no_operands k s

-- where some bytes spell it; LOCK stands only where it may
abbrev pub if_encodable : Insn → Option Insn
if_encodable i = if is_encodable i then Some i else None

abbrev pub by_op : Bool → Option Op → Option Insn
by_op lock None = None
by_op lock (Some o) = if_encodable (record { lock = lock; op = o })

-- the instruction that LOCK or none, a mnemonic and operands of these shapes write
abbrev pub instruction_of : Bool → Mnemonic → OperandShapes → Option Insn
instruction_of lock m s = by_op lock (op_of m s)
