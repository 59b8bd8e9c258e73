-- An instruction has a spelling where each of its operands fits; a jump is as long as its distance says.
use Rattle.std.proofs.Common.{◌≡◌, Bool, true, false, refl}
use Rattle.std.specs.Prelude.{◌&&◌, not}
use Rattle.ia_word.specs.declared.width.Width.{Width}
use Rattle.ia_word.specs.declared.width.Width.TheVariants.{D}
use Rattle.ia_insn.specs.declared.op.Op.{Op}
use Rattle.ia_insn.specs.declared.op.Op.TheVariants as op
use Rattle.ia_insn.specs.declared.operand.Operand.{Operand}
use Rattle.ia_insn.specs.declared.operand.Operand.TheVariants.{Reg, Imm, Mem as Memory}
use Rattle.ia_insn.specs.declared.argument.Argument.TheVariants as is
use Rattle.ia_insn.specs.Spelling.{is_place}
use Rattle.ia_insn.specs.Writing.{fits_operand}
use Rattle.ia_insn.specs.Encoding.{fits_pair, fits_test, encodable, op_bytes}
use Rattle.ia_insn.specs.Arguments.{fits_argument, operands_of, IsByOperands, EndsAfter}

-- so many tests, and true for the rest of three operands and for the rule on two

one_test : (a : Bool) → a ≡ (a && true && true && true)
one_test true = refl
one_test false = refl

two_tests : (a b : Bool) → (a && b) ≡ (a && b && true && true)
two_tests true true = refl
two_tests true false = refl
two_tests false b = refl

three_tests : (a b c : Bool) → (a && b && c) ≡ (a && b && c && true)
three_tests true true true = refl
three_tests true true false = refl
three_tests true false c = refl
three_tests false b c = refl

not_both : (a : Bool) → false ≡ (a && false)
not_both true = refl
not_both false = refl

-- a destination and a source
pair : (w : Width) (t s : Operand)
    → fits_pair w t s ≡ (fits_operand t && fits_argument (is.Source w s) && true && not (is_place t && is_place s))
pair w (Reg t) (Reg s) = two_tests (fits_operand (Reg t)) (fits_argument (is.Source w (Reg s)))
pair w (Reg t) (Memory s) = two_tests (fits_operand (Reg t)) (fits_argument (is.Source w (Memory s)))
pair w (Reg t) (Imm s) = two_tests (fits_operand (Reg t)) (fits_argument (is.Source w (Imm s)))
pair w (Memory t) (Reg s) = two_tests (fits_operand (Memory t)) (fits_argument (is.Source w (Reg s)))
pair w (Memory t) (Memory s) = not_both (fits_operand (Memory t) && fits_argument (is.Source w (Memory s)) && true)
pair w (Memory t) (Imm s) = two_tests (fits_operand (Memory t)) (fits_argument (is.Source w (Imm s)))
pair w (Imm t) (Reg s) = refl
pair w (Imm t) (Memory s) = refl
pair w (Imm t) (Imm s) = refl

test : (w : Width) (t s : Operand)
    → fits_test w t s ≡ (fits_operand t && fits_argument (is.Source w s) && true && not (is_place s))
test w t (Reg s) = two_tests (fits_operand t) (fits_argument (is.Source w (Reg s)))
test w t (Memory s) = not_both (fits_operand t && fits_argument (is.Source w (Memory s)) && true)
test w t (Imm s) = two_tests (fits_operand t) (fits_argument (is.Source w (Imm s)))

push : (m : Operand) → IsByOperands (op.Push m)
push (Reg r) = one_test (encodable (op.Push (Reg r)))
push (Memory m) = one_test (encodable (op.Push (Memory m)))
push (Imm n) = one_test (encodable (op.Push (Imm n)))

pub by_operands : (i : Op) → IsByOperands i
by_operands (op.Alu k w t s) = pair w t s
by_operands (op.Mov w t s) = pair w t s
by_operands (op.Lea r m) = two_tests (fits_operand (Reg r)) (fits_operand (Memory m))
by_operands (op.Xchg w m r) = two_tests (fits_operand m) (fits_operand (Reg r))
by_operands (op.IncDec k w m) = one_test (fits_operand m)
by_operands (op.Test w t s) = test w t s
by_operands (op.Unary k m) = one_test (fits_operand m)
by_operands (op.Imul r m) = two_tests (fits_operand (Reg r)) (fits_operand m)
by_operands (op.ImulImm r m n) =
    three_tests (fits_operand (Reg r)) (fits_operand m) (fits_argument (is.Source D (Imm n)))
by_operands (op.Shift k m c) = two_tests (fits_operand m) (fits_argument (is.Count c))
by_operands (op.Push m) = push m
by_operands (op.Pop m) = one_test (fits_operand m)
by_operands (op.Call d) = one_test (encodable (op.Call d))
by_operands (op.CallTo m) = one_test (fits_operand m)
by_operands op.Ret = refl
by_operands (op.RetPop n) = one_test (encodable (op.RetPop n))
by_operands (op.Jmp d) = one_test (encodable (op.Jmp d))
by_operands (op.JmpShort d) = one_test (encodable (op.JmpShort d))
by_operands (op.JmpTo m) = one_test (fits_operand m)
by_operands (op.Jcc c d) = one_test (encodable (op.Jcc c d))
by_operands (op.JccShort c d) = one_test (encodable (op.JccShort c d))
by_operands (op.Setcc c m) = one_test (fits_operand m)
by_operands (op.Cmovcc c r m) = two_tests (fits_operand (Reg r)) (fits_operand m)
by_operands (op.LoopJump k d) = one_test (encodable (op.LoopJump k d))
by_operands (op.Extend k r m) = two_tests (fits_operand (Reg r)) (fits_operand m)
by_operands (op.Exchange k m r) = two_tests (fits_operand m) (fits_operand (Reg r))
by_operands (op.Bit k m n) = two_tests (fits_operand m) (fits_argument (is.Byte n))
by_operands op.Nop = refl
by_operands (op.NopOf m) = one_test (fits_operand m)
by_operands (op.Bare k) = refl
by_operands (op.Xbegin d) = one_test (encodable (op.Xbegin d))
by_operands (op.Xabort n) = one_test (encodable (op.Xabort n))

-- a jump is as long as its distance says
pub ends : (number place : Bool) (i : Op) → EndsAfter (op_bytes number place i) (operands_of i).first
unfolding op_bytes
ends number place (op.Call d) = refl
ends number place (op.Jmp d) = refl
ends number place (op.JmpShort d) = refl
ends number place (op.Jcc c d) = refl
ends number place (op.JccShort c d) = refl
ends number place (op.LoopJump k d) = refl
ends number place (op.Xbegin d) = refl
ends number place _ = tt
