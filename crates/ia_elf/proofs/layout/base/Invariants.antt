use Rattle.std.proofs.Common.{◌<◌, ℕ}
use Rattle.ia_elf.specs.Fields.{segment}
use Rattle.ia_elf.specs.Segments.{HasBytes}
use Rattle.ia_elf.proofs.layout.base.Given as goal

-- no segment so far has bytes
abbrev pub invariant-loop-number : goal.invariant-loop-number
invariant-loop-number l = (k : ℕ) → k < l.number → ¬ HasBytes (segment l.file k)
