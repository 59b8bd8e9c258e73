use Rattle.std.proofs.Common.{◌≢◌, ◌<◌, ℕ}
use Rattle.ia_elf.specs.Fields.{section}
use Rattle.ia_elf.proofs.tables.find_symbols.Given as goal

-- none of the first sections is a symbol table
abbrev pub invariant-loop-number : goal.invariant-loop-number
invariant-loop-number l = (k : ℕ) → k < l.number → (section l.file k).sh_type ≢ 2
