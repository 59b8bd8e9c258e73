-- What is printed of a machine (docs/FORMATS.md, "Printed lines").
use Rattle.std.specs.Prelude.{◌≡◌, ℕ, ◌+◌, ◌++◌, ◌&&◌, Bool, true, nat_le, List, [], ◌∷◌, codes, slice_range, length}
use Rattle.std.specs.Borrow.{Bor}
use Rattle.std.specs.Fmt.{decimal}
use Rattle.std.specs.List.{flat_map, list_all}
use Rattle.text_out.specs.Number.{eight_digits}
use Rattle.text_out.specs.TextLine.{line_end}
use Rattle.ia_word.specs.Operand.{operand_of}
use Rattle.ia_word.specs.declared.width.Width.TheVariants.{D}
use Rattle.tm_core.specs.Theorem.{ShownMachine as Machine}
use Rattle.tm_hist.specs.Lines.{dump_lines, state_text}
use Rattle.tm_model.specs.Access.{addresses_of, bytes_at}
use Rattle.elide_program.specs.declared.parts.Dump.{Dump}
use Rattle.elide_program.specs.declared.parts.MemoryParts.{MemoryParts}
use Rattle.elide_setup.specs.declared.shown.ShownMemory.{ShownMemory}

-- so many bytes from an address on lie in a memory of this size
abbrev pub is_held : ℕ → ℕ → ℕ → Bool
is_held size address count = nat_le (address + count) size

abbrev pub is_dump_held : ℕ → Dump → Bool
is_dump_held size dump = is_held size dump.address dump.length

abbrev pub is_value_held : ℕ → ℕ → Bool
is_value_held size address = is_held size address 4

-- all parts do
abbrev pub are_held : ℕ → MemoryParts → Bool
are_held size parts = list_all (is_dump_held size) parts.dumps.items && list_all (is_value_held size) parts.values.items

-- it has all that is printed of it
pub record IsWhole (shown : ShownMemory) : Type 0 where
  pub dumps : list_all (is_dump_held (length shown.bytes.now)) shown.dumps.now ≡ true
  pub values : list_all (is_value_held (length shown.bytes.now)) shown.values.now ≡ true

-- the parts of a memory, all of which it has, and the sums that they were asked for by
pub record IsShownOf (memory : List ℕ) (parts : MemoryParts) (texts : List (Bor (List ℕ))) (shown : ShownMemory)
    : Type 0 where
  pub bytes : shown.bytes.now ≡ memory
  pub dumps : shown.dumps.now ≡ parts.dumps.items
  pub sums : shown.sums.now ≡ texts
  pub values : shown.values.now ≡ parts.values.items
  pub whole : IsWhole shown

-- the dump lines of a part
abbrev pub dump_text : List ℕ → Dump → List ℕ
dump_text bytes dump = dump_lines (slice_range bytes dump.address (dump.address + dump.length)) dump.address

abbrev pub dumps_text : List ℕ → List Dump → List ℕ
dumps_text bytes dumps = flat_map (dump_text bytes) dumps

-- the doubleword at an address, lowest byte first
abbrev pub doubleword : List ℕ → ℕ → ℕ
doubleword bytes address = operand_of D (bytes_at bytes (addresses_of address D))

-- a number in eight hex digits and in decimal
abbrev pub value_text : ℕ → List ℕ
value_text value = codes "=" ++ eight_digits value ++ codes " " ++ decimal value ++ line_end

-- behind the sum by which it was asked for
abbrev pub value_line : List ℕ → ℕ → List ℕ
value_line sum value = sum ++ value_text value

abbrev pub values_text : List ℕ → List (Bor (List ℕ)) → List ℕ → List ℕ
values_text bytes [] values = []
values_text bytes (sum ∷ sums) [] = []
values_text bytes (sum ∷ sums) (address ∷ values) =
    value_line sum.now (doubleword bytes address) ++ values_text bytes sums values

-- the dump lines, and below them the lines of the doublewords
abbrev pub parts_text : ShownMemory → List ℕ
parts_text shown =
    dumps_text shown.bytes.now shown.dumps.now ++ values_text shown.bytes.now shown.sums.now shown.values.now

-- the state lines, and below them what is printed of memory
abbrev pub shown_text : Machine → ShownMemory → List ℕ
shown_text machine shown = state_text machine ++ parts_text shown
