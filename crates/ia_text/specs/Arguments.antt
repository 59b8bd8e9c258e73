-- The operands of an instruction at an address, as they are printed. A jump is shown by its target (SDM volume 2, Jcc
-- and JMP: the distance counts from the end of the instruction).
use Rattle.std.specs.Prelude.{ℕ, ◌+◌, ◌%◌, ◌^◌, Bool, true, false, if◌then◌else◌, Option, option_map}
use Rattle.ia_word.specs.declared.width.Width.{Width}
use Rattle.ia_insn.specs.declared.kinds.Count.{Count}
use Rattle.ia_insn.specs.declared.kinds.Count.TheVariants as count
use Rattle.ia_insn.specs.declared.op.Op.{Op}
use Rattle.ia_insn.specs.declared.op.Op.TheVariants as op
use Rattle.ia_insn.specs.declared.operand.Operand.{Operand}
use Rattle.ia_insn.specs.declared.operand.Operand.TheVariants as operand
use Rattle.ia_insn.specs.declared.argument.Argument.{Argument}
use Rattle.ia_insn.specs.declared.argument.Argument.TheVariants as argument
use Rattle.ia_insn.specs.Arguments.{operands_of}
use Rattle.ia_text.specs.declared.arg.Arg.{Arg}
use Rattle.ia_text.specs.declared.arg.Arg.TheVariants as arg

abbrev pub operand_arg : Width → Operand → Arg
operand_arg width (operand.Reg register) = arg.Register width register
operand_arg width (operand.Mem place) = arg.Place width place
operand_arg width (operand.Imm number) = arg.Number number

abbrev pub count_arg : Count → Arg
count_arg (count.Imm number) = arg.Number number
count_arg count.Cl = arg.Cl

-- where a jump of so many bytes at an address goes
abbrev pub target : ℕ → ℕ → ℕ → ℕ
target at long distance = (at + long + distance) % 2 ^ 32

-- LOOP and JECXZ have no near form, and so do not say that they are short
abbrev pub says_short : Op → Bool
says_short (op.LoopJump kind distance) = false
says_short _ = true

abbrev pub short_target : Bool → ℕ → Arg
short_target says place = if says then arg.Short place else arg.Number place

-- an operand of an instruction at an address
abbrev pub shown_arg : Bool → ℕ → Argument → Arg
shown_arg says at (argument.Operand role width operand) = operand_arg width operand
shown_arg says at (argument.Source width operand) = operand_arg width operand
shown_arg says at (argument.Address place) = arg.Address place
shown_arg says at (argument.Count amount) = count_arg amount
shown_arg says at (argument.Byte number) = arg.Number number
shown_arg says at (argument.Half number) = arg.Number number
shown_arg says at (argument.Near long distance) = arg.Number (target at long distance)
shown_arg says at (argument.Short distance) = short_target says (target at 2 distance)

abbrev pub first_arg : Op → ℕ → Option Arg
first_arg op at = option_map (shown_arg (says_short op) at) (operands_of op).first

abbrev pub second_arg : Op → ℕ → Option Arg
second_arg op at = option_map (shown_arg (says_short op) at) (operands_of op).second

abbrev pub third_arg : Op → ℕ → Option Arg
third_arg op at = option_map (shown_arg (says_short op) at) (operands_of op).third
