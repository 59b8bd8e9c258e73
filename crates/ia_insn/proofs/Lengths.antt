-- No spelling is longer than 15 bytes.
use Rattle.std.proofs.Common.{ℕ, ◌≤◌, List, Option, length, arith}
use Rattle.std.proofs.lemmas.List.{length-append}
use Rattle.ia_insn.specs.declared.op.Op.{Op}
use Rattle.ia_insn.specs.declared.op.Insn.{Insn}
use Rattle.ia_insn.specs.declared.operand.Mem.{Mem}
use Rattle.ia_insn.specs.declared.operand.Operand.{Operand}
use Rattle.ia_insn.specs.Operands.{Head, SpellsDisp, no_disp, disp8, disp32, SpellsBase, no_base, base, SpellsMem}
use Rattle.ia_insn.specs.Operands.{plain as plain_mem, sib, SpellsOperand, register, memory}
use Rattle.ia_insn.specs.Form.{Tail, Form, SpellsTail, nothing, byte, signed_byte, two_bytes, four_bytes, SpellsForm}
use Rattle.ia_insn.specs.Form.{alone, operand, chosen, place}
use Rattle.ia_insn.specs.Table.{SpellsOp, one, two, with_f3}
use Rattle.ia_insn.specs.Spelling.{Spells, unlocked, locked}

disp_len : {m d : ℕ} {s : List ℕ} → SpellsDisp m s d → length s ≤ 4
disp_len no_disp = omega arith
disp_len (disp8 h) = omega arith
disp_len (disp32 h) = omega arith

base_len : {m r d : ℕ} {s : List ℕ} {b : Option ℕ} → SpellsBase m r s b d → length s ≤ 4
base_len (no_base h) = omega arith
base_len (base h x) = disp_len x

mem_len : {m r : ℕ} {s : List ℕ} {p : Mem} → SpellsMem m r s p → length s ≤ 5
mem_len (plain_mem n h) = omega (arith, base_len h)
mem_len (sib lt h) = omega (arith, base_len h)

operand_len : {h : Head} {s : List ℕ} {m : Operand} → SpellsOperand h s m → length s ≤ 5
operand_len (register e) = omega arith
operand_len (memory n h) = mem_len h

tail_len : {t : Tail} {s : List ℕ} {i : Op} → SpellsTail t s i → length s ≤ 4
tail_len nothing = omega arith
tail_len (byte h) = omega arith
tail_len (signed_byte h) = omega arith
tail_len (two_bytes h) = omega arith
tail_len (four_bytes h) = omega arith

form_len : {f : Form} {s : List ℕ} {i : Op} → SpellsForm f s i → length s ≤ 10
form_len (alone h) = omega (arith, tail_len h)
form_len (operand {x = x} {y = y} lt o t) = omega (arith, operand_len o, tail_len t, length-append x y)
form_len (chosen {x = x} {y = y} lt e o t) = omega (arith, operand_len o, tail_len t, length-append x y)
form_len (place lt n h) = omega (arith, mem_len h)

op_len : {s : List ℕ} {i : Op} → SpellsOp s i → length s ≤ 12
op_len (one lt h) = omega (arith, form_len h)
op_len (two lt h) = omega (arith, form_len h)
op_len (with_f3 lt h) = omega (arith, form_len h)

pub spelling_len : {s : List ℕ} {i : Insn} → Spells s i → length s ≤ 13
spelling_len (unlocked h) = omega (arith, op_len h)
spelling_len (locked h l) = omega (arith, op_len h)

op_some : {s : List ℕ} {i : Op} → SpellsOp s i → 1 ≤ length s
op_some (one lt h) = omega arith
op_some (two lt h) = omega arith
op_some (with_f3 lt h) = omega arith

-- no spelling is empty
pub spelling_some : {s : List ℕ} {i : Insn} → Spells s i → 1 ≤ length s
spelling_some (unlocked h) = op_some h
spelling_some (locked h l) = omega arith
