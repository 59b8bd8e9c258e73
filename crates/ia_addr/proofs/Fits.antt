-- The operands of an encodable instruction can be read.
use Rattle.std.proofs.Common.{IsTrue, arith}
use Rattle.ia_word.specs.declared.width.Width.{Width}
use Rattle.ia_insn.specs.declared.operand.Operand.{Operand}
use Rattle.ia_insn.specs.declared.operand.Operand.TheVariants.{Reg, Imm, Mem as Memory}
use Rattle.ia_insn.specs.Writing.{fits_operand}
use Rattle.ia_insn.specs.Encoding.{fits_pair, fits_test}
use Rattle.ia_addr.specs.Load.{is_readable}

pub readable : (m : Operand) → IsTrue (fits_operand m) → IsTrue (is_readable m)
readable (Reg n) h = h
readable (Memory m) h = h
readable (Imm n) h = grind arith

pub pair_to : (w : Width) (t s : Operand) → IsTrue (fits_pair w t s) → IsTrue (fits_operand t)
pair_to w (Reg d) (Reg s) h = grind arith
pair_to w (Memory m) (Reg s) h = grind arith
pair_to w (Imm n) (Reg s) h = grind arith
pair_to w (Reg d) (Memory m) h = grind arith
pair_to w (Memory n) (Memory m) h = grind arith
pair_to w (Imm n) (Memory m) h = grind arith
pair_to w (Reg d) (Imm n) h = grind arith
pair_to w (Memory m) (Imm n) h = grind arith
pair_to w (Imm m) (Imm n) h = grind arith

pub pair_from : (w : Width) (t s : Operand) → IsTrue (fits_pair w t s) → IsTrue (is_readable s)
pair_from w t (Reg s) h = grind arith
pair_from w (Reg d) (Memory m) h = grind arith
pair_from w (Memory n) (Memory m) h = grind arith
pair_from w (Imm n) (Memory m) h = grind arith
pair_from w t (Imm n) h = grind arith

pub test_to : (w : Width) (t s : Operand) → IsTrue (fits_test w t s) → IsTrue (fits_operand t)
test_to w t (Reg s) h = grind arith
test_to w t (Memory m) h = grind arith
test_to w t (Imm n) h = grind arith

pub test_from : (w : Width) (t s : Operand) → IsTrue (fits_test w t s) → IsTrue (is_readable s)
test_from w t (Reg s) h = grind arith
test_from w t (Memory m) h = grind arith
test_from w t (Imm n) h = grind arith

-- the two operands of an encodable pair
pub ruleset pairs = (readable, pair_to, pair_from)

-- the two of a TEST
pub ruleset tests = (readable, test_to, test_from)

-- the operand that is read
pub ruleset sources = (readable, pair_from)
