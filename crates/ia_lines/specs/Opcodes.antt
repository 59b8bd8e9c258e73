-- The opcodes of a line number program, as they stand in its bytes (DWARF version 5, sections 6.2.5.1 to 6.2.5.3, and
-- 7.22 for their numbers).
use Rattle.std.specs.Prelude.{ℕ, ◌-◌, ◌==◌, List, length, Option, Some, None}
use Rattle.std.specs.Prelude.{if◌then◌else◌, nat_le}
use Rattle.ia_lines.specs.Cursor.{◌>>=◌, Read, byte_at, half_at, word_at, block_at, unsigned_at, signed_at}
use Rattle.ia_lines.specs.declared.opcodes.Opcode.{Opcode}
use Rattle.ia_lines.specs.declared.opcodes.Opcode.TheVariants.{Special, Copy, AdvancePc, AdvanceLine, SetFile}
use Rattle.ia_lines.specs.declared.opcodes.Opcode.TheVariants.{ConstAddPc}
use Rattle.ia_lines.specs.declared.opcodes.Opcode.TheVariants.{FixedAdvancePc, EndSequence, SetAddress, Other}

-- a standard opcode with a number that this table does not keep (column, ISA)
abbrev pub skipped_at : List ℕ → Read Opcode
skipped_at bytes = unsigned_at bytes >>= λ n. Some (Other, n.1)

-- DW_LNS_copy 1, advance_pc 2, advance_line 3, set_file 4, set_column 5, negate_stmt 6, set_basic_block 7,
-- const_add_pc 8, fixed_advance_pc 9, set_prologue_end 10, set_epilogue_begin 11, set_isa 12
unfoldable pub standard_at : ℕ → List ℕ → Read Opcode
standard_at number bytes =
    if number == 1 then Some (Copy, bytes)
    else if number == 2 then (unsigned_at bytes >>= λ n. Some (AdvancePc n.0, n.1))
    else if number == 3 then (signed_at bytes >>= λ n. Some (AdvanceLine n.0, n.1))
    else if number == 4 then (unsigned_at bytes >>= λ n. Some (SetFile n.0, n.1))
    else if number == 5 then skipped_at bytes
    else if number == 6 then Some (Other, bytes)
    else if number == 7 then Some (Other, bytes)
    else if number == 8 then Some (ConstAddPc, bytes)
    else if number == 9 then (half_at bytes >>= λ n. Some (FixedAdvancePc n.0, n.1))
    else if number == 10 then Some (Other, bytes)
    else if number == 11 then Some (Other, bytes)
    else if number == 12 then skipped_at bytes
    else None

-- what the bytes of an extended opcode say: DW_LNE_end_sequence 1, and DW_LNE_set_address 2 with an address of 4 bytes
unfoldable pub extended_of : List ℕ → Option Opcode
extended_of bytes = byte_at bytes >>= λ o.
    if o.0 == 1 then Some EndSequence
    else if o.0 == 2 then (if length o.1 == 4 then (word_at o.1 >>= λ n. Some (SetAddress n.0)) else None)
    else Some Other

-- an extended opcode: its length, and so many bytes
unfoldable pub extended_at : List ℕ → Read Opcode
extended_at bytes = unsigned_at bytes >>= λ n. block_at n.0 n.1 >>= λ b. extended_of b.0 >>= λ o. Some (o, b.1)

-- the opcode in front: 0 begins an extended one, and from opcode_base on they are special
unfoldable pub opcode_at : ℕ → List ℕ → Read Opcode
opcode_at opcode_base bytes = byte_at bytes >>= λ o.
    if o.0 == 0 then extended_at o.1
    else if nat_le opcode_base o.0 then Some (Special (o.0 - opcode_base), o.1)
    else standard_at o.0 o.1
