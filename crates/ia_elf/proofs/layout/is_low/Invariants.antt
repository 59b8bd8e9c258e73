use Rattle.std.proofs.Common.{◌<◌, ℕ}
use Rattle.ia_elf.specs.Fields.{segment}
use Rattle.ia_elf.specs.Segments.{IsLow}
use Rattle.ia_elf.proofs.layout.is_low.Given as goal

abbrev pub invariant-loop-number : goal.invariant-loop-number
invariant-loop-number l = (k : ℕ) → k < l.number → IsLow (segment l.file k)
