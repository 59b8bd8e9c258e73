use Rattle.std.proofs.Common.{◌≡◌, ℕ, List, take}
use Rattle.symbols.specs.Symbols.{symbol_in}
use Rattle.ia_asm.specs.Assemblies.{known_as}
use Rattle.elide_places.proofs.file_symbols.source_symbols.Given as goal

abbrev pub invariant-symbols : goal.invariant-symbols
invariant-symbols l = (name : List ℕ) → symbol_in l.row.items name ≡ known_as name (take l.index l.symbols.entries)
