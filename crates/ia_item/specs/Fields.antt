-- What an instruction's number and displacement go into.
use Rattle.std.specs.Prelude.{ℕ, ◌+◌, ◌-◌, ◌%◌, ◌^◌, ◌<◌, Bool, ◌&&◌, if◌then◌else◌, IsTrue, ℤ, pos, negsuc, int_le}
use Rattle.std.specs.Prelude.{Option, Some, None}
use Rattle.ia_word.specs.declared.width.Width.TheVariants.{B}
use Rattle.ia_insn.specs.declared.kinds.Count.TheVariants as count
use Rattle.ia_insn.specs.declared.op.Op.{Op}
use Rattle.ia_insn.specs.declared.op.Op.TheVariants as op
use Rattle.ia_insn.specs.declared.argument.Argument.{Argument}
use Rattle.ia_insn.specs.declared.argument.Argument.TheVariants as argument
use Rattle.ia_insn.specs.declared.operand.Mem.{Mem}
use Rattle.ia_insn.specs.declared.operand.Operand.{Operand}
use Rattle.ia_insn.specs.declared.operand.Operand.TheVariants as operand
use Rattle.ia_insn.specs.Arguments.{operands_of}
use Rattle.ia_insn.specs.Encoding.{fits_short}
use Rattle.ia_item.specs.declared.item.Field.{Field}
use Rattle.ia_item.specs.declared.item.Field.TheVariants as field

-- what goes into an operand that is a number; a jump's distance counts from behind the jump
abbrev pub field_in : Argument → Field
field_in (argument.Source B operand) = field.Byte
field_in (argument.Count amount) = field.Byte
field_in (argument.Byte n) = field.Byte
field_in (argument.Half n) = field.Half
field_in (argument.Near long d) = field.Near long
field_in (argument.Short d) = field.Short 2
field_in _ = field.Long

abbrev pub field_or : Option Argument → Field → Field
field_or None f = f
field_or (Some x) f = field_in x

-- what the number of an instruction goes into, which is its last operand
abbrev pub field_of : Op → Field
field_of o = field_or (operands_of o).third (field_or (operands_of o).second
    (field_or (operands_of o).first field.Long))

abbrev pub number_in : Operand → ℕ → Operand
number_in (operand.Imm x) n = operand.Imm n
number_in m n = m

-- the instruction with that number
abbrev pub with_number : Op → ℕ → Op
with_number (op.Alu k w m s) n = op.Alu k w m (number_in s n)
with_number (op.Mov w m s) n = op.Mov w m (number_in s n)
with_number (op.Test w m s) n = op.Test w m (number_in s n)
with_number (op.ImulImm r m x) n = op.ImulImm r m n
with_number (op.Shift k m (count.Imm x)) n = op.Shift k m (count.Imm n)
with_number (op.Push m) n = op.Push (number_in m n)
with_number (op.Call d) n = op.Call n
with_number (op.RetPop d) n = op.RetPop n
with_number (op.Jmp d) n = op.Jmp n
with_number (op.JmpShort d) n = op.JmpShort n
with_number (op.Jcc c d) n = op.Jcc c n
with_number (op.JccShort c d) n = op.JccShort c n
with_number (op.LoopJump k d) n = op.LoopJump k n
with_number (op.Bit k m x) n = op.Bit k m n
with_number (op.Xbegin d) n = op.Xbegin n
with_number (op.Xabort d) n = op.Xabort n
with_number o n = o

abbrev pub with_disp : Mem → ℕ → Mem
with_disp m d = record { base = m.base; index = m.index; scale = m.scale; disp = d }

abbrev pub displacement_in : Operand → ℕ → Operand
displacement_in (operand.Mem m) d = operand.Mem (with_disp m d)
displacement_in m d = m

-- the instruction with that displacement
abbrev pub with_displacement : Op → ℕ → Op
with_displacement (op.Alu k w m s) d = op.Alu k w (displacement_in m d) (displacement_in s d)
with_displacement (op.Mov w m s) d = op.Mov w (displacement_in m d) (displacement_in s d)
with_displacement (op.Lea r m) d = op.Lea r (with_disp m d)
with_displacement (op.Xchg w m r) d = op.Xchg w (displacement_in m d) r
with_displacement (op.IncDec k w m) d = op.IncDec k w (displacement_in m d)
with_displacement (op.Test w m s) d = op.Test w (displacement_in m d) (displacement_in s d)
with_displacement (op.Unary k m) d = op.Unary k (displacement_in m d)
with_displacement (op.Imul r m) d = op.Imul r (displacement_in m d)
with_displacement (op.ImulImm r m n) d = op.ImulImm r (displacement_in m d) n
with_displacement (op.Shift k m n) d = op.Shift k (displacement_in m d) n
with_displacement (op.Push m) d = op.Push (displacement_in m d)
with_displacement (op.Pop m) d = op.Pop (displacement_in m d)
with_displacement (op.CallTo m) d = op.CallTo (displacement_in m d)
with_displacement (op.JmpTo m) d = op.JmpTo (displacement_in m d)
with_displacement (op.Setcc c m) d = op.Setcc c (displacement_in m d)
with_displacement (op.Cmovcc c r m) d = op.Cmovcc c r (displacement_in m d)
with_displacement (op.Extend k r m) d = op.Extend k r (displacement_in m d)
with_displacement (op.Exchange k m r) d = op.Exchange k (displacement_in m d) r
with_displacement (op.Bit k m n) d = op.Bit k (displacement_in m d) n
with_displacement (op.NopOf m) d = op.NopOf (displacement_in m d)
with_displacement o d = o

-- ---- values

-- from low to high
abbrev pub within : ℤ → ℤ → ℤ → Bool
within low high v = int_le low v && int_le v high

-- the least and the greatest value that a field takes
abbrev pub low_of : Field → ℤ
low_of field.Byte = negsuc 127
low_of field.Half = pos 0
low_of _ = negsuc (2 ^ 31 - 1)

abbrev pub high_of : Field → ℤ
high_of field.Byte = pos 255
high_of field.Half = pos 65535
high_of _ = pos (2 ^ 32 - 1)

-- a value in its range modulo 2^32, and modulo 2^8
abbrev pub modulo_long : ℤ → ℕ
modulo_long (pos n) = n
modulo_long (negsuc n) = 2 ^ 32 - 1 - n

abbrev pub modulo_byte : ℤ → ℕ
modulo_byte (pos n) = n
modulo_byte (negsuc n) = 255 - n

-- the distance to a target from so many bytes behind an address, modulo 2^32
abbrev pub distance : ℕ → ℕ → ℕ → ℕ
distance at long target = (target + 2 ^ 32 - (at + long) % 2 ^ 32) % 2 ^ 32

-- what goes into a field at an address for a value in its range; of a distance that is too far, 0
abbrev pub stored_number : Field → ℕ → ℤ → ℕ
stored_number field.Byte at v = modulo_byte v
stored_number field.Half at v = modulo_long v
stored_number field.Long at v = modulo_long v
stored_number (field.Near long) at v = distance at long (modulo_long v)
stored_number (field.Short long) at v = if fits_short (distance at long (modulo_long v)) then distance at long
    (modulo_long v) else 0

-- what a field can hold
abbrev pub Holds : Field → ℕ → Type 0
Holds field.Byte n = n < 256
Holds field.Half n = n < 65536
Holds field.Long n = n < 2 ^ 32
Holds (field.Near long) n = n < 2 ^ 32
Holds (field.Short long) n = IsTrue (fits_short n)
