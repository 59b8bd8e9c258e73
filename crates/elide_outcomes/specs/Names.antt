-- Labels by their addresses (docs/FORMATS.md, "Outcomes").
use Rattle.std.specs.Prelude.{ℕ, List, Option, Some, find, option_map}
use Rattle.symbols.specs.Shown.{shown_name}
use Rattle.symbols.specs.Symbols.{stands_at}
use Rattle.symbols.specs.declared.symbol.Symbol.{Symbol}
use Rattle.elide_program.specs.ProgramFile.{IsFileSymbol}
use Rattle.elide_program.specs.declared.file.ProgramFile.{ProgramFile}

-- the symbol of this name stands there in the file
abbrev pub IsLabelOf : ProgramFile → Symbol → Type 0
IsLabelOf file label = IsFileSymbol file label.name.items (Some label.value)

-- the name of the first of some labels that stands at an address, as it is shown
abbrev pub label_at : List Symbol → ℕ → Option (List ℕ)
label_at labels address = option_map (λ (label : Symbol). shown_name label.name.items) (find (stands_at address) labels)
