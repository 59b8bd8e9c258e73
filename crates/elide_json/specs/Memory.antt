-- What is shown of a memory (docs/JSON.md, "The state of a machine").
use Rattle.std.specs.Prelude.{◌≡◌, ℕ, ◌+◌, List, codes, map, slice_range, string_bytes}
use Rattle.std.specs.Borrow.{Bor}
use Rattle.std.specs.List.{zip}
use Rattle.elide_object.specs.Object.{list_value, number_value}
use Rattle.elide_program.specs.declared.parts.Dump.{Dump}
use Rattle.elide_program.specs.declared.parts.MemoryParts.{MemoryParts}
use Rattle.elide_setup.specs.Shown.{doubleword}
use Rattle.hex.specs.Hex.{encode_lower}
use Rattle.serde_json.specs.Data.{Data, member, no_members, object, string}
use Rattle.elide_json.specs.declared.memory.DumpRow.{DumpRow}
use Rattle.elide_json.specs.declared.memory.Rows.{Rows}
use Rattle.elide_json.specs.declared.memory.ShowRow.{ShowRow}

-- bytes in hex, and the address of the first
abbrev pub dump_value : ℕ → List ℕ → Data
dump_value address digits =
    object (member (codes "address") (number_value address) (member (codes "bytes") (string digits) no_members))

-- a part of a memory
abbrev pub dump_at : List ℕ → Dump → Data
dump_at memory dump =
    dump_value dump.address (encode_lower (slice_range memory dump.address (dump.address + dump.length)))

abbrev pub dumps_value : List ℕ → List Dump → Data
dumps_value memory dumps = list_value (dump_at memory) dumps

-- a doubleword, its address, and the text that asked for it
abbrev pub show_value : List ℕ → ℕ → ℕ → Data
show_value at address value =
    object (member (codes "at") (string at)
    (member (codes "address") (number_value address)
    (member (codes "value") (number_value value) no_members)))

-- that of a memory
abbrev pub show_at : List ℕ → Bor (List ℕ) × ℕ → Data
show_at memory asked = show_value asked.0.now asked.1 (doubleword memory asked.1)

abbrev pub shows_value : List ℕ → List (Bor (List ℕ)) → List ℕ → Data
shows_value memory texts addresses = list_value (show_at memory) (zip texts addresses)

-- the same of rows that were made of them
abbrev pub dump_row : DumpRow → Data
dump_row row = dump_value row.address (string_bytes row.digits)

abbrev pub show_row : ShowRow → Data
show_row row = show_value (string_bytes row.at) row.address row.value

-- rows of these parts of a memory, and of the doublewords that these texts ask for
pub record AreRowsOf (memory : List ℕ) (parts : MemoryParts) (texts : List (Bor (List ℕ))) (rows : Rows) : Type 0 where
  pub dumps : map dump_row rows.dumps.items ≡ map (dump_at memory) parts.dumps.items
  pub shows : map show_row rows.shows.items ≡ map (show_at memory) (zip texts parts.values.items)
