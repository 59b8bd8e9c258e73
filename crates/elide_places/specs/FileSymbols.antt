-- The symbols of a file, by which names are addresses (docs/FORMATS.md, "Debugger").
use Rattle.std.specs.Prelude.{◌≡◌, ℕ, ◌<◌, List, Option, Some, None}
use Rattle.symbols.specs.Symbols.{symbol_in}
use Rattle.symbols.specs.declared.symbol.Symbol.{Symbol}
use Rattle.elide_program.specs.ProgramFile.{IsFileSymbol}
use Rattle.elide_program.specs.declared.file.ProgramFile.{ProgramFile}
use Rattle.ia_elf.specs.Symbols.{IsNamed, st_value}

-- each name stands for what it stands for in the file
abbrev pub AreSymbolsOf : ProgramFile → List Symbol → Type 0
AreSymbolsOf file symbols = (name : List ℕ) → IsFileSymbol file name (symbol_in symbols name)

-- of an executable's table, the value of the first symbol of this name among its first so many entries
abbrev pub IsFirstBelow : List ℕ → List ℕ → ℕ → List ℕ → Option ℕ → Type 0
IsFirstBelow symbols strings end name None = (k : ℕ) → k < end → ¬ IsNamed symbols strings name k
IsFirstBelow symbols strings end name (Some value) = (k : ℕ) × (k < end) × IsNamed symbols strings name k
    × (value ≡ st_value symbols k) × ((j : ℕ) → j < k → ¬ IsNamed symbols strings name j)
