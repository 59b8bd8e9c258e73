use Rattle.std.proofs.Common.{arith}
use Rattle.ia_alu.proofs.Readings.{through, negation_overflows}
use Rattle.ia_alu.proofs.ops.neg.Goals as goal

pub returns-clause-of : goal.returns-clause-of
returns-clause-of c = through _ _ _ c.sub.ensures.of (negation_overflows c.args.a (omega arith))
