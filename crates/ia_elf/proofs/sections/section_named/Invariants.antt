use Rattle.std.proofs.Common.{◌<◌, ℕ}
use Rattle.ia_elf.specs.Named.{IsSectionNamed}
use Rattle.ia_elf.proofs.sections.section_named.Given as goal

-- none of the first sections has the name
abbrev pub invariant-loop-number : goal.invariant-loop-number
invariant-loop-number l = (k : ℕ) → k < l.number → ¬ IsSectionNamed l.file l.name k
