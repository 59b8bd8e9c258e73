-- Where the entries of a source go, however often it is read.
use Rattle.std.specs.Prelude.{◌≡◌, ℕ, false, None, Ok, List, map}
use Rattle.ia_item.specs.declared.item.Entry.{Entry}
use Rattle.ia_item.specs.Fits.{AllFit}
use Rattle.ia_names.specs.declared.names.Names.{Names}
use Rattle.ia_names.specs.Namings.{Naming, IsNaming}
use Rattle.ia_source.specs.Contents.{entry_content}
use Rattle.ia_source.specs.Source.{AsksFor, ReadsAs, entries_of}
use Rattle.ia_resolve.specs.Symbols.{known}
use Rattle.ia_layout.specs.Placement.{base_of, text_end, tail_base, all_places, values}
use Rattle.ia_asm.specs.declared.program_layout.ProgramLayout.{ProgramLayout}
use Rattle.ia_asm.specs.Assemblies.{fault_of}

-- a reading gave entries of which this holds
abbrev pub ForEntries : List ℕ → Names → (List Entry → Type 0) → Type 0
ForEntries source names P = (es : List Entry) × ReadsAs source names es × AllFit es × P es

-- this holds of the entries of each reading that has these names
abbrev pub OfEntries : List ℕ → Names → (List Entry → Type 0) → Type 0
OfEntries source names P = (naming : Naming) → IsNaming naming names → (es : List Entry)
    → entries_of source ≡ Ok (map (entry_content (record { naming = naming; written = false })) es) → P es

-- this is where the entries go, and the values of their symbols
pub record ArePlaced (es : List Entry) (l : ProgramLayout) : Type 0 where
  pub begins : l.base ≡ base_of es
  pub ends : l.end ≡ text_end es
  pub tail : l.tail ≡ tail_base (text_end es)
  pub known_as : known l.table.values.entries ≡ values (all_places es)

-- and none of them has a fault
abbrev pub IsLayout : List Entry → ProgramLayout → Type 0
IsLayout es l = (fault_of es ≡ None) × ArePlaced es l

-- so are the entries of each reading that has these names
abbrev pub IsLaidOut : List ℕ → Names → ProgramLayout → Type 0
IsLaidOut source names l = OfEntries source names (λ es. IsLayout es l)

-- the lines ask for entries that are laid out so, and of which this holds
abbrev pub HasLaidOut : List ℕ → ProgramLayout → (List Entry → Type 0) → Type 0
HasLaidOut source l P = (es : List Entry) × AsksFor source es × AllFit es × IsLayout es l × P es
