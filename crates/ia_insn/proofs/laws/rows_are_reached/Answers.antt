use Rattle.ia_insn.proofs.Order.{alu_reached, reached_40, reached_80, reached_A0, reached_C0, reached_0F}
use Rattle.ia_insn.proofs.laws.rows_are_reached.Goals as goal

pub returns-clause-arithmetic : goal.returns-clause-arithmetic
returns-clause-arithmetic c = alu_reached

pub returns-clause-from_40 : goal.returns-clause-from_40
returns-clause-from_40 c = reached_40

pub returns-clause-from_80 : goal.returns-clause-from_80
returns-clause-from_80 c = reached_80

pub returns-clause-from_a0 : goal.returns-clause-from_a0
returns-clause-from_a0 c = reached_A0

pub returns-clause-from_c0 : goal.returns-clause-from_c0
returns-clause-from_c0 c = reached_C0

pub returns-clause-behind_0f : goal.returns-clause-behind_0f
returns-clause-behind_0f c = reached_0F
