-- How many bytes an instruction of IA-32 takes: prefixes, opcode, ModRM with what belongs to it, and immediates
-- (SDM volume 2, chapter 2, "Instruction Format", and appendix A). Bytes that are missing count as 0: they make the
-- length one beyond the bytes, which is then not told.
use Rattle.std.specs.Prelude.{ℕ, ◌+◌, ◌/◌, ◌%◌, ◌==◌, Bool, true, false, List, Option, Some, None, Result, Ok, Err}
use Rattle.std.specs.Prelude.{if◌then◌else◌, nat_le, nat_lt, length, take, slice_index_or}
use Rattle.std.specs.List.{prefix_len}
use Rattle.ia_insn.specs.declared.fault.DecodeFault.{DecodeFault}
use Rattle.ia_insn.specs.declared.fault.DecodeFault.TheVariants.{Short, NotInSubset, LockNotAllowed}
use Rattle.ia_insn.specs.declared.op.Insn.{Insn}
use Rattle.ia_insn.specs.Reading.{decoding_of}
use Rattle.ia_foreign.specs.Maps.{one_byte_letter, two_byte_letter, shape_of}
use Rattle.ia_foreign.specs.Prefixes.{is_prefix, has}
use Rattle.ia_foreign.specs.declared.behind.Around.{Around}
use Rattle.ia_foreign.specs.declared.behind.Opcode.{Opcode}
use Rattle.ia_foreign.specs.declared.maps.Shape.{Shape}
use Rattle.ia_foreign.specs.declared.maps.Shape.TheVariants.{Unsure, Bytes, Sized, Pointer, Offset, Operand}
use Rattle.ia_foreign.specs.declared.maps.Shape.TheVariants.{OperandSized}
use Rattle.ia_foreign.specs.declared.maps.Shape.TheVariants.{Memory, First, Repeated, Test, TestSized}

abbrev pub byte_or_zero : List ℕ → ℕ → ℕ
byte_or_zero bytes at = slice_index_or bytes at 0

-- ---- ModRM, SIB and displacement (tables 2-1 to 2-3)

-- the displacement behind a base in 32-bit addressing
unfoldable pub disp_len : ℕ → ℕ → ℕ
disp_len mode base = if mode == 0 then (if base == 5 then 4 else 0) else if mode == 1 then 1 else 4

-- SIB and displacement of a place in memory, in 32-bit addressing
unfoldable pub place_len : ℕ → ℕ → ℕ
place_len modrm sib =
    if modrm / 64 == 3 then 0
    else if modrm % 8 == 4 then 1 + disp_len (modrm / 64) (sib % 8)
    else disp_len (modrm / 64) (modrm % 8)

-- the displacement of a place in memory, in 16-bit addressing
unfoldable pub short_place_len : ℕ → ℕ
short_place_len modrm =
    if modrm / 64 == 0 then (if modrm % 8 == 6 then 2 else 0)
    else if modrm / 64 == 1 then 1
    else if modrm / 64 == 2 then 2
    else 0

-- ---- what stands behind an opcode

-- an immediate of the operand's size
abbrev pub sized_len : Around → ℕ
sized_len at = if at.narrow then 2 else 4

-- ModRM and what belongs to it
abbrev pub operand_len : Around → ℕ
operand_len at = 1 + (if at.short then short_place_len at.modrm else place_len at.modrm at.sib)

abbrev pub is_test : Around → Bool
is_test at = nat_lt (at.modrm / 8 % 8) 2

unfoldable pub behind_len : Shape → Around → Option ℕ
behind_len Unsure at = None
behind_len (Bytes count) at = Some count
behind_len Sized at = Some (sized_len at)
behind_len Pointer at = Some (2 + sized_len at)
behind_len Offset at = Some (if at.short then 2 else 4)
behind_len (Operand count) at = Some (operand_len at + count)
behind_len OperandSized at = Some (operand_len at + sized_len at)
behind_len Memory at = if at.modrm / 64 == 3 then None else Some (operand_len at)
behind_len First at = if at.modrm / 8 % 8 == 0 then Some (operand_len at) else None
behind_len Repeated at = if at.repeated then Some (operand_len at) else None
behind_len Test at = Some (operand_len at + (if is_test at then 1 else 0))
behind_len TestSized at = Some (operand_len at + (if is_test at then sized_len at else 0))

-- ---- opcodes and their escapes

-- how many bytes an opcode has, and what follows it: 0F leads to the second map, 0F 38 and 0F 3A to maps whose
-- opcodes all have a ModRM operand, behind 0F 3A with an immediate byte
unfoldable pub opcode_at : ℕ → ℕ → Opcode
opcode_at first second =
    if first == 15 then
    (if second == 56 then record { count = 3; shape = Operand 0 }
    else if second == 58 then record { count = 3; shape = Operand 1 }
    else record { count = 2; shape = shape_of (two_byte_letter second) })
    else record { count = 1; shape = shape_of (one_byte_letter first) }

-- the prefixes in front
abbrev pub prefix_bytes : List ℕ → List ℕ
prefix_bytes bytes = take (prefix_len is_prefix bytes) bytes

-- what stands around an opcode that ends here
abbrev pub around : List ℕ → ℕ → Around
around bytes place = record {
  narrow = has 102 (prefix_bytes bytes);
  short = has 103 (prefix_bytes bytes);
  repeated = has 243 (prefix_bytes bytes);
  modrm = byte_or_zero bytes place;
  sib = byte_or_zero bytes (place + 1);
}

-- a length that the bytes have
abbrev pub within : ℕ → ℕ → Option ℕ → Option ℕ
within most front None = None
within most front (Some behind) = if nat_le (front + behind) most then Some (front + behind) else None

-- the length of the instruction in front of at most 15 bytes
unfoldable pub length_by_maps : List ℕ → Option ℕ
length_by_maps bytes =
    let count = length (prefix_bytes bytes) in
    let opcode = opcode_at (byte_or_zero bytes count) (byte_or_zero bytes (count + 1)) in
    within (length bytes) (count + opcode.count) (behind_len opcode.shape (around bytes (count + opcode.count)))

-- ---- foreign instructions

-- the decoder refuses the bytes, and not because they end too early
abbrev pub is_foreign : Result (Insn × ℕ) DecodeFault → Bool
is_foreign (Ok found) = false
is_foreign (Err Short) = false
is_foreign (Err NotInSubset) = true
is_foreign (Err LockNotAllowed) = true

abbrev pub is_foreign_code : List ℕ → Bool
is_foreign_code bytes = is_foreign (decoding_of bytes)

-- the length of what is foreign: that by the maps, of the first 15 bytes, which is as long as an instruction can be
abbrev pub foreign_length : List ℕ → Option ℕ
foreign_length bytes = length_by_maps (take 15 bytes)
