-- The opcode maps of SDM volume 2, appendix A: what follows an opcode, by the letters of the two tables.
use Rattle.std.specs.Prelude.{ℕ, ◌==◌, if◌then◌else◌, slice_index}
use Rattle.ia_foreign.specs.declared.maps.TheConstants.{ONE_BYTE, TWO_BYTE}
use Rattle.ia_foreign.specs.declared.maps.Shape.{Shape}
use Rattle.ia_foreign.specs.declared.maps.Shape.TheVariants.{Unsure, Bytes, Sized, Pointer, Offset, Operand}
use Rattle.ia_foreign.specs.declared.maps.Shape.TheVariants.{OperandSized}
use Rattle.ia_foreign.specs.declared.maps.Shape.TheVariants.{Memory, First, Repeated, Test, TestSized}

-- the letter of an opcode
unfoldable pub one_byte_letter : ℕ → ℕ
one_byte_letter opcode = slice_index ONE_BYTE.now opcode

unfoldable pub two_byte_letter : ℕ → ℕ
two_byte_letter opcode = slice_index TWO_BYTE.now opcode

-- what a letter says: 0 1 2 3 z m b w a p n h f t u
unfoldable pub shape_of : ℕ → Shape
shape_of letter =
    if letter == 48 then Bytes 0
    else if letter == 49 then Bytes 1
    else if letter == 50 then Bytes 2
    else if letter == 51 then Bytes 3
    else if letter == 122 then Sized
    else if letter == 109 then Operand 0
    else if letter == 98 then Operand 1
    else if letter == 119 then OperandSized
    else if letter == 97 then Offset
    else if letter == 112 then Pointer
    else if letter == 110 then Memory
    else if letter == 104 then First
    else if letter == 102 then Repeated
    else if letter == 116 then Test
    else if letter == 117 then TestSized
    else Unsure
