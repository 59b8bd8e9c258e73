use Rattle.std.proofs.Common.{sym, ◌∙◌}
use Rattle.ia_insn.proofs.ByOperands.{by_operands}
use Rattle.ia_insn.proofs.encodable.op_fits.Goals as goal

pub returns : goal.returns
returns c = c.operands_fit.ensures ∙ sym (by_operands c.args.op.now)
