use Rattle.tm_core.proofs.Buffered.{CopiedTo}
use Rattle.tm_core.proofs.store_rows.copy_rows.Given as goal

-- the rows so far are taken over, and the others are as they were
abbrev pub invariant-loop-core : goal.invariant-loop-core
invariant-loop-core l = CopiedTo l.core l.initial.rows l.twins l.rows
