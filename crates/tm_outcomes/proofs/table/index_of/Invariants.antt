use Rattle.std.proofs.Common.{take}
use Rattle.tm_outcomes.specs.Outcomes.{AreTold}
use Rattle.tm_outcomes.proofs.table.index_of.Given as goal

-- none so far has these values
abbrev pub invariant-loop-index : goal.invariant-loop-index
invariant-loop-index l = ¬ AreTold (take l.index l.table) l.values
