-- Which names of a program are numbers: those that `equ` gives (docs/FORMATS.md, "Source").
use Rattle.std.specs.Prelude.{ℕ, Bool, false, List, Result, Ok, Err}
use Rattle.std.specs.List.{list_any}
use Rattle.std.specs.Str.{bytes_eq}
use Rattle.elide_program.specs.declared.file.ProgramFile.{ProgramFile}
use Rattle.elide_program.specs.declared.file.ProgramFile.TheVariants.{Image, Elf, Source}
use Rattle.ia_item.specs.declared.name.Name.{Name}
use Rattle.ia_item.specs.Names.{whole_name}
use Rattle.ia_source.specs.Contents.{EntryContent, ItemContent, Equ}
use Rattle.ia_source.specs.Source.{entries_of}
use Rattle.ia_source.specs.declared.fault.Why.{Why}

-- the entry is the `equ` of this name
abbrev pub is_equ_item : List ℕ → ItemContent → Bool
is_equ_item name (Equ other terms) = bytes_eq name other
is_equ_item name _ = false

abbrev pub is_equ : List ℕ → EntryContent → Bool
is_equ name entry = is_equ_item name entry.item

abbrev pub is_equ_among : List ℕ → Result (List EntryContent) (ℕ × Why) → Bool
is_equ_among name (Ok entries) = list_any (is_equ name) entries
is_equ_among name (Err fault) = false

-- of a source the lines of the text have the `equ` of this name; executables and image text have none
abbrev pub is_constant : List ℕ → ProgramFile → List ℕ → Bool
is_constant text (Source program) name = is_equ_among name (entries_of text)
is_constant text (Elf elf) name = false
is_constant text (Image image) name = false

-- a name is among some
abbrev pub is_among : List Name → List ℕ → Bool
is_among names name = list_any (λ n. bytes_eq name (whole_name n)) names
