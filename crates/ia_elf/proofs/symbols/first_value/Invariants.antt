use Rattle.std.proofs.Common.{◌<◌, ℕ}
use Rattle.ia_elf.specs.Symbols.{IsNamed}
use Rattle.ia_elf.proofs.symbols.first_value.Given as goal

-- none of the first entries has the name
abbrev pub invariant-loop-number : goal.invariant-loop-number
invariant-loop-number l = (k : ℕ) → k < l.number → ¬ IsNamed l.symbols l.strings l.name k
