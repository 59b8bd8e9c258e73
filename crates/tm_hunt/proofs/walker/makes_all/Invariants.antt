use Rattle.std.proofs.Common.{take}
use Rattle.tm_core.specs.Theorem.{SameMachine}
use Rattle.tm_hunt.specs.Cycle.{Makes}
use Rattle.tm_hunt.proofs.walker.makes_all.Given as goal

abbrev pub invariant-loop-pick : goal.invariant-loop-pick
invariant-loop-pick l = record {
  same : SameMachine l.fn.machine l.machine;
  made : Makes l.fn.machine l.machine (take l.pick-index l.picks);
}
