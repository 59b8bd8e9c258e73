-- What takers of places give, with the places behind those that they have taken.
use Rattle.std.specs.Prelude.{◌≡◌, ℕ, Option, List, ◌++◌, map, flat_map}
use Rattle.indexmap.specs.IndexMap.{insert_all}
use Rattle.ia_item.specs.declared.name.Name.{Name}
use Rattle.ia_item.specs.declared.item.Entry.{Entry}
use Rattle.ia_item.specs.declared.item.Section.TheVariants.{Text as InText, Data as InData}
use Rattle.ia_item.specs.Names.{same_name}
use Rattle.ia_resolve.specs.declared.place_fault.PlaceFault.{PlaceFault}
use Rattle.ia_resolve.specs.Symbols.{known}
use Rattle.ia_layout.specs.Placement.{EntryPlace, section_bytes}
use Rattle.ia_asm.specs.declared.code.Code.{Code}
use Rattle.ia_asm.specs.declared.faults.FaultSearch.{FaultSearch}
use Rattle.ia_asm.specs.declared.marks.CodeLine.{CodeLine}
use Rattle.ia_asm.specs.declared.marks.Marks.{Marks}
use Rattle.ia_asm.specs.declared.marks.SymbolKind.{SymbolKind}
use Rattle.ia_asm.specs.declared.named_values.NamedValues.{NamedValues}
use Rattle.ia_asm.specs.Assemblies.{code_line, code_of, definition, symbol_kind, symbol_modulo, tail_of}
use Rattle.ia_asm.specs.Faults.{fault_from}

-- the bytes of the code
abbrev pub code_with : Code → List EntryPlace → List ℕ
code_with c ps = c.code.items ++ section_bytes InText (known c.symbols.now.values.entries) ps

-- the bytes of the data
abbrev pub tail_with : Code → List EntryPlace → List ℕ
tail_with c ps = c.tail.items ++ section_bytes InData (known c.symbols.now.values.entries) ps

-- the symbols
abbrev pub names_with : NamedValues → List EntryPlace → List (Name × ℕ)
names_with n ps = insert_all same_name n.symbols.entries (map symbol_modulo (flat_map definition ps))

-- what the symbols are
abbrev pub kinds_with : Marks → List EntryPlace → List SymbolKind
kinds_with m ps = m.kinds.items ++ flat_map symbol_kind ps

-- where the instructions stand
abbrev pub lines_with : Marks → List EntryPlace → List CodeLine
lines_with m ps = m.lines.items ++ flat_map code_line ps

-- the first line that has a fault, and its first fault
abbrev pub faults_with : FaultSearch → List EntryPlace → Option (PlaceFault × ℕ)
faults_with f ps = fault_from (known f.symbols.now.values.entries) f.base f.found ps

-- the bytes are those of the entries
abbrev pub HasBytes : List Entry → Code → Type 0
HasBytes es c = (c.code.items ≡ code_of es) × (c.tail.items ≡ tail_of es)
