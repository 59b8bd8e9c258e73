use Rattle.std.proofs.Common.{None}
use Rattle.tm_why.proofs.FilledRows.{default_of}
use Rattle.tm_why.proofs.asked.Asked.nothing.Goals as goal

pub invariant_of-result-clause-none : goal.invariant_of-result-clause-none
invariant_of-result-clause-none c = λ k behind. default_of 64 k None

pub invariant_of-result-clause-drain_none : goal.invariant_of-result-clause-drain_none
invariant_of-result-clause-drain_none c = λ k behind. default_of 64 k None
