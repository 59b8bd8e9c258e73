use Rattle.tm_core.proofs.Buffered.{GivenUpTo}
use Rattle.tm_core.proofs.store_rows.empty_rows.Given as goal

-- the rows so far are given up, and the others are as they were
abbrev pub invariant-loop-core : goal.invariant-loop-core
invariant-loop-core l = GivenUpTo l.core l.initial.rows l.rows
