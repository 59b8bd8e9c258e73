-- The machines of a search for a loop.
use Rattle.tm_core.specs.Theorem.{SameMachine}
use Rattle.tm_hunt.specs.Cycle.{IsMachineOf}
use Rattle.tm_hunt.specs.declared.chase.Chase.{Chase}
use Rattle.tm_hunt.specs.declared.trial.Trial.{Trial}

pub record IsChaseOf (trial : Trial) (chase : Chase) : Type 0 where
  pub slow : IsMachineOf trial chase.slow.machine
  pub fast : IsMachineOf trial chase.fast.machine

pub record SameChase (before after : Chase) : Type 0 where
  pub slow : SameMachine before.slow.machine after.slow.machine
  pub fast : SameMachine before.fast.machine after.fast.machine
