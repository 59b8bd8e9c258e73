-- The state machine of a line number program: its registers, what an opcode does to them, and the rows that it appends
-- (DWARF version 5, sections 6.2.2 and 6.2.5). Addresses and lines count modulo 2^32.
use Rattle.std.specs.Prelude.{◌≡◌, ℕ, ◌+◌, ◌-◌, ◌*◌, ◌/◌, ◌%◌, ◌^◌, true, false, List, [], ◌∷◌, ◌++◌, Some}
use Rattle.ia_lines.specs.Opcodes.{opcode_at}
use Rattle.ia_lines.specs.declared.layout.Layout.{Layout}
use Rattle.ia_lines.specs.declared.machine.Registers.{Registers}
use Rattle.ia_lines.specs.declared.lines.Row.{Row}
use Rattle.ia_lines.specs.declared.opcodes.Opcode.{Opcode}
use Rattle.ia_lines.specs.declared.opcodes.Opcode.TheVariants.{Special, Copy, AdvancePc, AdvanceLine, SetFile}
use Rattle.ia_lines.specs.declared.opcodes.Opcode.TheVariants.{ConstAddPc}
use Rattle.ia_lines.specs.declared.opcodes.Opcode.TheVariants.{FixedAdvancePc, EndSequence, SetAddress, Other}

-- a sum modulo 2^32
abbrev pub plus : ℕ → ℕ → ℕ
plus a b = (a + b) % 2 ^ 32

-- the registers at the start of each sequence: address 0, file 1, line 1
abbrev pub initial : Registers
initial = record { address = 0; file = 1; line = 1 }

-- the address moved on by so many instructions of the least length
abbrev pub moved : Layout → Registers → ℕ → ℕ
moved layout r count = plus r.address (layout.least * count % 2 ^ 32)

-- the registers after an opcode
unfoldable pub after : Layout → Opcode → Registers → Registers
after layout (Special number) r = record {
  address = moved layout r (number / layout.line_range);
  file = r.file;
  line = plus r.line (plus layout.line_base (number % layout.line_range));
}
after layout Copy r = r
after layout (AdvancePc count) r = record { address = moved layout r count; file = r.file; line = r.line }
after layout (AdvanceLine count) r = record { address = r.address; file = r.file; line = plus r.line count }
after layout (SetFile file) r = record { address = r.address; file = file; line = r.line }
after layout ConstAddPc r = record {
  address = moved layout r ((255 - layout.opcode_base) / layout.line_range);
  file = r.file;
  line = r.line;
}
after layout (FixedAdvancePc count) r = record { address = plus r.address count; file = r.file; line = r.line }
after layout EndSequence r = initial
after layout (SetAddress address) r = record { address = address; file = r.file; line = r.line }
after layout Other r = r

-- a row with the values of the registers; the last of a sequence says so
abbrev pub row : Layout → Registers → Row
row layout r = record { address = r.address; unit = layout.unit; file = r.file; line = r.line; ends = false }

abbrev pub last_row : Layout → Registers → Row
last_row layout r = record { address = r.address; unit = layout.unit; file = r.file; line = r.line; ends = true }

-- the rows that an opcode appends
unfoldable pub rows_of : Layout → Opcode → Registers → List Row
rows_of layout (Special number) r = row layout (after layout (Special number) r) ∷ []
rows_of layout Copy r = row layout r ∷ []
rows_of layout (AdvancePc count) r = []
rows_of layout (AdvanceLine count) r = []
rows_of layout (SetFile file) r = []
rows_of layout ConstAddPc r = []
rows_of layout (FixedAdvancePc count) r = []
rows_of layout EndSequence r = last_row layout r ∷ []
rows_of layout (SetAddress address) r = []
rows_of layout Other r = []

-- a program, from these registers on, appends these rows: opcode by opcode to the end of its bytes
pub data Runs (layout : Layout) : Registers → List ℕ → List Row → Type 0 where
  ended : {r : Registers} → Runs layout r [] []
  step : {r : Registers} {bytes rest : List ℕ} {opcode : Opcode} {rows : List Row}
      → opcode_at layout.opcode_base bytes ≡ Some (opcode, rest)
      → Runs layout (after layout opcode r) rest rows
      → Runs layout r bytes (rows_of layout opcode r ++ rows)
