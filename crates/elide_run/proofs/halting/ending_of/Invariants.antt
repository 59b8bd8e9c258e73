use Rattle.elide_run.proofs.Running.{HaveTold}
use Rattle.elide_run.proofs.halting.ending_of.Given as goal

-- the cores so far were told
abbrev pub invariant-loop-core : goal.invariant-loop-core
invariant-loop-core g l = HaveTold l.machine l.core l.ending (g.O.Out.device l.initial.out) (g.O.Out.device l.out)
