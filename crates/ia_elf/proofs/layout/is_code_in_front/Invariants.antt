use Rattle.std.proofs.Common.{◌<◌, ◌≤◌, ℕ}
use Rattle.ia_elf.specs.Fields.{segment}
use Rattle.ia_elf.specs.Segments.{HasOther}
use Rattle.ia_elf.proofs.layout.is_code_in_front.Given as goal

abbrev pub invariant-loop-number : goal.invariant-loop-number
invariant-loop-number l = (k : ℕ) → k < l.number → HasOther (segment l.file k) → l.code_end ≤ (segment l.file k).p_vaddr
