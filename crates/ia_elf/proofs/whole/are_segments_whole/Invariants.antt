use Rattle.std.proofs.Common.{◌<◌, ℕ}
use Rattle.ia_elf.specs.Fields.{segment}
use Rattle.ia_elf.specs.Segments.{IsSegmentWhole}
use Rattle.ia_elf.proofs.whole.are_segments_whole.Given as goal

abbrev pub invariant-loop-number : goal.invariant-loop-number
invariant-loop-number l = (k : ℕ) → k < l.number → IsSegmentWhole l.file (segment l.file k)
