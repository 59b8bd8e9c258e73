use Rattle.tm_hunt.specs.Cycle.{EachOnce}
use Rattle.tm_hunt.proofs.rounds.each_once.Given as goal

abbrev pub invariant-loop-core : goal.invariant-loop-core
invariant-loop-core l = EachOnce l.machine l.picks l.core
