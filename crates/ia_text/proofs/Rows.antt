-- Printed rows, by computing.
use Rattle.std.proofs.Common.{◌≡◌, true, false, Some, None, refl}
use Rattle.std.specs.Prelude.{codes}
use Rattle.ia_word.specs.declared.operation.AluOp.TheVariants as alu
use Rattle.ia_word.specs.declared.operation.IncDecOp.TheVariants as inc_dec
use Rattle.ia_word.specs.declared.width.Width.TheVariants.{B, D}
use Rattle.ia_insn.specs.declared.op.Op.TheVariants as op
use Rattle.ia_insn.specs.declared.operand.Operand.TheVariants as operand
use Rattle.ia_text.specs.Text.{mem_text, op_text, insn_text}

begin : insn_text (record { lock = false; op = op.Xbegin 15 }) 256 ≡ codes "xbegin 0x115"
unfolding insn_text op_text
begin = refl

locked : insn_text (record {
  lock = true;
  op = op.Alu alu.Add D (operand.Mem (record { base = Some 0; index = Some 1; scale = 4; disp = 16 })) (operand.Imm 18);
}) 0 ≡ codes "lock add dword [eax+ecx*4+0x10], 0x12"
unfolding insn_text op_text mem_text
locked = refl

absolute : insn_text (record {
  lock = false;
  op = op.Mov D (operand.Reg 0) (operand.Mem (record { base = None; index = None; scale = 1; disp = 256 }));
}) 0 ≡ codes "mov eax, dword [0x100]"
unfolding insn_text op_text mem_text
absolute = refl

zero_place : insn_text (record {
  lock = false;
  op = op.IncDec inc_dec.Inc B (operand.Mem (record { base = None; index = None; scale = 1; disp = 0 }));
}) 0 ≡ codes "inc byte [0x0]"
unfolding insn_text op_text mem_text
zero_place = refl
