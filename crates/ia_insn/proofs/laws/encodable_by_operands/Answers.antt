use Rattle.ia_insn.proofs.ByOperands.{by_operands}
use Rattle.ia_insn.proofs.laws.encodable_by_operands.Goals as goal

pub returns : goal.returns
returns c = by_operands
