use Rattle.ia_elf.proofs.Ends.{IsMemoryEndBelow}
use Rattle.ia_elf.proofs.layout.memory_end_in_order.Given as goal

abbrev pub invariant-loop-number : goal.invariant-loop-number
invariant-loop-number l = IsMemoryEndBelow l.file l.number l.end
