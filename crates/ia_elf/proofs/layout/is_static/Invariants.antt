use Rattle.std.proofs.Common.{◌≢◌, ◌<◌, ℕ}
use Rattle.ia_elf.specs.Fields.{segment}
use Rattle.ia_elf.proofs.layout.is_static.Given as goal

abbrev pub invariant-loop-number : goal.invariant-loop-number
invariant-loop-number l = (k : ℕ) → k < l.number → ((segment l.file k).p_type ≢ 2) × ((segment l.file k).p_type ≢ 3)
