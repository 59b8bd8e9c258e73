use Rattle.ia_insn.proofs.ByOperands.{ends}
use Rattle.ia_insn.proofs.laws.distances_count_from_the_end.Goals as goal

pub returns : goal.returns
returns c = ends
