-- The number of each kind of operation: how large it is, and that the opcode maps give the kind back.
use Rattle.std.proofs.Common.{◌≡◌, ◌+◌, ◌<◌, Some, refl, arith}
use Rattle.ia_word.specs.declared.condition.Condition.{Condition}
use Rattle.ia_word.specs.declared.condition.Condition.TheVariants as is
use Rattle.ia_word.specs.declared.operation.AluOp.{AluOp}
use Rattle.ia_word.specs.declared.operation.AluOp.TheVariants as alu
use Rattle.ia_word.specs.declared.operation.BitOp.{BitOp}
use Rattle.ia_word.specs.declared.operation.BitOp.TheVariants as bit
use Rattle.ia_word.specs.declared.operation.ExchangeOp.{ExchangeOp}
use Rattle.ia_word.specs.declared.operation.ExchangeOp.TheVariants as exchange
use Rattle.ia_word.specs.declared.operation.ExtendOp.{ExtendOp}
use Rattle.ia_word.specs.declared.operation.ExtendOp.TheVariants as extend
use Rattle.ia_word.specs.declared.operation.IncDecOp.{IncDecOp}
use Rattle.ia_word.specs.declared.operation.IncDecOp.TheVariants as inc_dec
use Rattle.ia_word.specs.declared.operation.LoopOp.{LoopOp}
use Rattle.ia_word.specs.declared.operation.LoopOp.TheVariants as loop
use Rattle.ia_word.specs.declared.operation.ShiftOp.{ShiftOp}
use Rattle.ia_word.specs.declared.operation.ShiftOp.TheVariants as shift
use Rattle.ia_word.specs.declared.operation.UnaryOp.{UnaryOp}
use Rattle.ia_word.specs.declared.operation.UnaryOp.TheVariants as unary
use Rattle.ia_word.specs.declared.width.Width.{Width}
use Rattle.ia_word.specs.declared.width.Width.TheVariants.{B, D}
use Rattle.ia_word.specs.Condition.{condition_number}
use Rattle.ia_insn.specs.declared.op.Op.TheVariants as op
use Rattle.ia_insn.specs.Form.{done, ibs, id, plain}
use Rattle.ia_insn.specs.Table.{one_byte, row_40, row_C0, two_byte, m_r, r_m, alu_of, shift_of, bit_of, inc_dec_of}
use Rattle.ia_insn.specs.Table.{unary_of, ff_of, only}
use Rattle.ia_insn.specs.Encoding.{width_bit}
use Rattle.ia_insn.specs.Operations.{alu_number, shift_number, bit_number, unary_number, inc_dec_number, extend_opcode}
use Rattle.ia_insn.specs.Operations.{exchange_opcode, loop_opcode}

-- ---- numbers in an opcode or behind one

pub alu_low : (k : AluOp) → alu_number k < 8
alu_low alu.Add = omega arith
alu_low _ = omega arith

pub alu_back : (k : AluOp) → alu_of (alu_number k) ≡ k
alu_back alu.Add = refl
alu_back _ = refl

pub width_low : (w : Width) → width_bit w < 2
width_low B = omega arith
width_low D = omega arith

pub unary_low : (k : UnaryOp) → unary_number k < 8
unary_low unary.Not = omega arith
unary_low _ = omega arith

pub unary_same : (k : UnaryOp) → unary_of (unary_number k) ≡ Some (λ m. done (op.Unary k m))
unary_same unary.Not = refl
unary_same _ = refl

pub shift_low : (k : ShiftOp) → shift_number k < 8
shift_low shift.Rol = omega arith
shift_low _ = omega arith

pub shift_same : (k : ShiftOp) → shift_of (shift_number k) ≡ Some k
shift_same shift.Rol = refl
shift_same _ = refl

pub bit_low : (k : BitOp) → bit_number k < 8
bit_low bit.Bt = omega arith
bit_low _ = omega arith

pub bit_same : (k : BitOp) → bit_of (bit_number k) ≡ Some k
bit_same bit.Bt = refl
bit_same _ = refl

pub inc_dec_low : (k : IncDecOp) → inc_dec_number k < 2
inc_dec_low inc_dec.Inc = omega arith
inc_dec_low inc_dec.Dec = omega arith

pub fe_same : (k : IncDecOp) → inc_dec_of (inc_dec_number k) ≡ Some k
fe_same inc_dec.Inc = refl
fe_same inc_dec.Dec = refl

pub ff_same : (k : IncDecOp) → ff_of (inc_dec_number k) ≡ Some (λ m. done (op.IncDec k D m))
ff_same inc_dec.Inc = refl
ff_same inc_dec.Dec = refl

-- ---- opcodes

pub exchange_low : (k : ExchangeOp) → exchange_opcode k < 256
exchange_low exchange.Compare = omega arith
exchange_low exchange.Add = omega arith

pub exchange_form : (k : ExchangeOp) → two_byte (exchange_opcode k) ≡ m_r (λ m r. op.Exchange k m r)
unfolding two_byte
exchange_form exchange.Compare = refl
exchange_form exchange.Add = refl

pub extend_low : (k : ExtendOp) → extend_opcode k < 256
extend_low extend.Zero = omega arith
extend_low extend.Sign = omega arith

pub extend_form : (k : ExtendOp) → two_byte (extend_opcode k) ≡ r_m (λ r m. op.Extend k r m)
unfolding two_byte
extend_form extend.Zero = refl
extend_form extend.Sign = refl

pub loop_low : (k : LoopOp) → loop_opcode k < 256
loop_low loop.Loop = omega arith
loop_low loop.Ecx = omega arith

pub loop_form : (k : LoopOp) → one_byte (loop_opcode k) ≡ plain (ibs (λ n. op.LoopJump k n))
unfolding one_byte row_C0
loop_form loop.Loop = refl
loop_form loop.Ecx = refl

-- ---- conditions

pub condition_low : (c : Condition) → condition_number c < 16
condition_low is.Overflow = omega arith
condition_low _ = omega arith

pub jcc_form : (c : Condition) → two_byte (0x80 + condition_number c) ≡ plain (id (λ n. op.Jcc c n))
unfolding two_byte
jcc_form is.Overflow = refl
jcc_form _ = refl

pub jcc_short_form : (c : Condition) → one_byte (0x70 + condition_number c) ≡ plain (ibs (λ n. op.JccShort c n))
unfolding one_byte row_40
jcc_short_form is.Overflow = refl
jcc_short_form _ = refl

pub set_form : (c : Condition) → two_byte (0x90 + condition_number c) ≡ only 0 (λ m. done (op.Setcc c m))
unfolding two_byte
set_form is.Overflow = refl
set_form _ = refl

pub cmov_form : (c : Condition) → two_byte (0x40 + condition_number c) ≡ r_m (λ r m. op.Cmovcc c r m)
unfolding two_byte
cmov_form is.Overflow = refl
cmov_form _ = refl
