-- What assembling gives.
use Rattle.std.specs.Prelude.{◌≡◌, ℕ, ◌+◌, ◌-◌, ◌%◌, ◌^◌, Option, Some, None, List, [], ◌∷◌, ℤ, pos, negsuc}
use Rattle.std.specs.Prelude.{length, map, flat_map, option_map}
use Rattle.std.specs.Str.{bytes_eq}
use Rattle.std.specs.Map.{lookup}
use Rattle.ia_item.specs.declared.name.Name.{Name}
use Rattle.ia_item.specs.Names.{whole_name, same_name}
use Rattle.ia_item.specs.declared.item.Entry.{Entry}
use Rattle.ia_item.specs.declared.item.Item.{Item}
use Rattle.ia_item.specs.declared.item.Item.TheVariants as item
use Rattle.indexmap.specs.IndexMap.{insert_all}
use Rattle.ia_item.specs.declared.item.Section.TheVariants.{Text as InText, Data as InData}
use Rattle.ia_asm.specs.declared.fault.AsmFault.{AsmFault}
use Rattle.ia_asm.specs.declared.fault.AsmFault.TheVariants.{NoMemory}
use Rattle.ia_resolve.specs.declared.place_fault.PlaceFault.{PlaceFault}
use Rattle.ia_asm.specs.declared.assembly.Unit.{Unit as Assembly}
use Rattle.ia_asm.specs.declared.assembly.ProgramImage.{ProgramImage}
use Rattle.ia_asm.specs.declared.assembly.CodeImage.{CodeImage}
use Rattle.ia_asm.specs.declared.marks.CodeLine.{CodeLine}
use Rattle.ia_asm.specs.declared.marks.SymbolKind.{SymbolKind}
use Rattle.ia_asm.specs.declared.marks.SymbolKind.TheVariants.{Label, Equate}
use Rattle.ia_asm.specs.Faults.{at_line}
use Rattle.ia_asm.specs.ListingText.{listing_text}
use Rattle.ia_layout.specs.Placement.{base_of, text_end, all_places, symbols, values, section_bytes, gap, code_and_data}
use Rattle.ia_layout.specs.Placement.{EntryPlace, first_fault}
use Rattle.ia_layout.specs.Placements.{IsPlacement}

-- a symbol's value modulo 2^32; none is below -2^31
abbrev pub value_modulo : ℤ → ℕ
value_modulo (pos n) = n % 2 ^ 32
value_modulo (negsuc n) = 2 ^ 32 - 1 - n

abbrev pub symbol_modulo : Name × ℤ → Name × ℕ
symbol_modulo s = (s.0, value_modulo s.1)

-- a label has its address, and `equ` its value: here by the names that are written
unfoldable pub item_definition : ℕ → ℤ → Item → List (Name × ℤ)
item_definition at v (item.Label d) = (d.name, pos at) ∷ []
item_definition at v (item.Equ d s) = (d.name, v) ∷ []
item_definition at v _ = []

abbrev pub definition : EntryPlace → List (Name × ℤ)
definition p = item_definition p.at p.critical_value p.entry.item

-- each name with its value, in the order of the source
abbrev pub named : List EntryPlace → List (Name × ℤ)
named ps = insert_all same_name [] (flat_map definition ps)

-- a label is one, and `equ` makes none
unfoldable pub item_kind : Item → List SymbolKind
item_kind (item.Label d) = Label ∷ []
item_kind (item.Equ d s) = Equate ∷ []
item_kind _ = []

abbrev pub symbol_kind : EntryPlace → List SymbolKind
symbol_kind p = item_kind p.entry.item

-- an instruction stands at its address on its line
unfoldable pub item_line : ℕ → ℕ → Item → List CodeLine
item_line at line (item.Code t) = record { address = at % 2 ^ 32; line = line } ∷ []
item_line at line _ = []

abbrev pub code_line : EntryPlace → List CodeLine
code_line p = item_line p.at p.entry.line p.entry.item

-- the value beside a whole name
abbrev pub known_as : List ℕ → List (Name × ℕ) → Option ℕ
known_as name symbols = lookup (λ n. bytes_eq name (whole_name n)) symbols

abbrev pub code_of : List Entry → List ℕ
code_of es = section_bytes InText (values (all_places es)) (all_places es)

abbrev pub tail_of : List Entry → List ℕ
tail_of es = section_bytes InData (values (all_places es)) (all_places es)

abbrev pub fault_of : List Entry → Option (PlaceFault × ℕ)
fault_of es = first_fault (values (all_places es)) (base_of es) (all_places es)

-- each symbol with its value modulo 2^32
abbrev pub symbols_of : List Entry → List (Name × ℕ)
symbols_of es = map symbol_modulo (named (all_places es))

-- what each definition is, in the order of the source
abbrev pub kinds_of : List Entry → List SymbolKind
kinds_of es = flat_map symbol_kind (all_places es)

-- where each instruction stands, in the order of the source
abbrev pub lines_of : List Entry → List CodeLine
lines_of es = flat_map code_line (all_places es)

abbrev pub listing_of : List Entry → List ℕ
listing_of es = listing_text (values (all_places es)) (all_places es)

-- none of the entries has a fault, and these bytes at this address, so many of them code, are theirs
pub record IsCodeOf (es : List Entry) (bytes : List ℕ) (at count : ℕ) : Type 0 where
  pub faultless : fault_of es ≡ None
  pub base : at ≡ base_of es
  pub image : bytes ≡ code_and_data (code_of es) (gap 64 (text_end es)) (tail_of es)
  pub code_len : count ≡ length (code_of es)
  -- the code ends where its items do, so that the data stands at its addresses
  pub end : base_of es + length (code_of es) ≡ text_end es
  pub placement : IsPlacement es at count bytes (symbols (all_places es))

-- the image fits the entries
abbrev pub IsCode : List Entry → CodeImage → Type 0
IsCode es c = IsCodeOf es c.image.items c.base c.code_len

-- and the symbols, what they are, and where the instructions stand
abbrev pub IsImage : List Entry → ProgramImage → Type 0
IsImage es p = IsCodeOf es p.image.items p.base p.code_len × (p.symbols.entries ≡ symbols_of es)
    × (p.kinds.items ≡ kinds_of es) × (p.lines.items ≡ lines_of es)

-- the image, the symbols and the listing
abbrev pub IsAssembly : List Entry → Assembly → Type 0
IsAssembly es u = IsCodeOf es u.image.items u.base u.code_len × (u.symbols.entries ≡ symbols_of es)
    × (u.listing.items ≡ listing_of es)

-- memory was refused, or this is the first line of the entries that has a fault, and its first fault
abbrev pub TellsFault : List Entry → AsmFault → Type 0
TellsFault es NoMemory = Unit {0}
TellsFault es f = option_map (λ t. at_line t.0 t.1) (fault_of es) ≡ Some f
