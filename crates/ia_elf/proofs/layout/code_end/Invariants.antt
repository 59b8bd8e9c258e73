use Rattle.ia_elf.proofs.Ends.{IsCodeEndBelow}
use Rattle.ia_elf.proofs.layout.code_end.Given as goal

abbrev pub invariant-loop-number : goal.invariant-loop-number
invariant-loop-number l = IsCodeEndBelow l.file l.number l.end
