use Rattle.ia_elf.proofs.Loading.{IsLoadedBelow}
use Rattle.ia_elf.proofs.memory.load.Given as goal

abbrev pub invariant-loop-number : goal.invariant-loop-number
invariant-loop-number l = IsLoadedBelow l.file l.bytes.items l.base l.number
