use Rattle.std.proofs.Common.{ℕ, List}
use Rattle.symbols.specs.Symbols.{symbol_in}
use Rattle.elide_places.specs.FileSymbols.{IsFirstBelow}
use Rattle.elide_places.proofs.file_symbols.elf_symbols.Given as goal

abbrev pub invariant-entries : goal.invariant-entries
invariant-entries l =
    (name : List ℕ) → IsFirstBelow l.elf.symbols l.elf.strings l.index name (symbol_in l.row.items name)
